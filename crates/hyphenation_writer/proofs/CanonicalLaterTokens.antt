-- A later token as it is written is read again as the break that it was written for.
use Rattle.std.proofs.Common.{◌≡◌, ℕ, suc, ◌-◌, ◌^◌, ◌<◌, Bool, true, false, cond, not, ◌&&◌, ◌||◌, eqb, nat_lt, List, [], ◌∷◌, ◌++◌, length, take, drop, get_or, Option, Some, None, is_some, unwrap_or, refl, sym, ap, ◌∙◌, arith, length-append}
use Rattle.std.specs.Prelude.{decimal, flat_map, IsUtf8}
use Rattle.std.specs.Option.{option_map}
use Rattle.std.specs.List.{list_all, onto_first}
use Rattle.std.specs.Str.{is_utf8}
use Rattle.std.proofs.lemmas.Fmt.{decimal_nonempty}
use Rattle.std.proofs.lemmas.List.{append-nil}
use Rattle.std.proofs.lemmas.Str.{IsUtf8-from_is_utf8}
use Rattle.std.proofs.lemmas.Bool.{and_from}
use Rattle.std.proofs.lemmas.Bool.Decides.{nat_tests}
use Rattle.hyphenation_breaks.specs.Break.{Break, Change, keeps_within}
use Rattle.hyphenation_grammar.specs.declared.form.Form.{Form}
use Rattle.hyphenation_grammar.specs.declared.form.Kind.{Kind}
use Rattle.hyphenation_grammar.specs.Items.{break_of_token}
use Rattle.hyphenation_grammar.specs.Judging.{is_good_later_token, is_extended, has_value_at}
use Rattle.hyphenation_breaks.specs.Invariant.{fits_usize, can_be_written, can_be_written_if_any, stays_within}
use Rattle.hyphenation_grammar.specs.Lines.{is_number, number, is_same}
use Rattle.hyphenation_grammar.specs.Tokens.{escaped_bytes_of, text_spelt, parts_within, parts_of, put_byte, has_comma, numerals_of, is_readable, place_of_token, change_of_token, has_five_parts, bytes_of}
use Rattle.hyphenation_writer.specs.Canonical.{byte_spelling, text_token, before_comma, break_token}
use Rattle.hyphenation_grammar.specs.declared.tokens.Escapes.TheVariants.{Plain}
use Rattle.hyphenation_grammar.specs.declared.tokens.PatternElement.{PatternElement}
use Rattle.hyphenation_writer.proofs.Decimals.{decimal-written, decimal-number, decimal-utf8}
use Rattle.hyphenation_writer.proofs.SpelledBytes.{Free, IsGap, digits-free, comma-free, text-free, number-free}
use Rattle.std.specs.Cmp.{first_so, second_so}
use Rattle.hyphenation_writer.proofs.SpelledUtf8.{token-utf8, comma-utf8}
use Rattle.hyphenation_writer.proofs.CanonicalTokens.{reads_text, digits-signs}

-- ---- Texts.

-- the token of a text with letters is not that of the empty one
not_empty : (b : ℕ) (rest : List ℕ) → is_same (byte_spelling Plain b ++ rest) (92 ∷ 101 ∷ []) ≡ false
not_empty b rest = by (eqb b 92) (eqb b 32) (eqb b 10) (eqb b 13) refl
  where
    by : (t1 t2 t3 t4 : Bool) → eqb b 92 ≡ t1
        → is_same (cond t1 (92 ∷ 92 ∷ []) (cond t2 (92 ∷ 115 ∷ []) (cond t3 (92 ∷ 110 ∷ []) (cond t4 (92 ∷ 114 ∷ []) (b ∷ [])))) ++ rest) (92 ∷ 101 ∷ []) ≡ false
    by true t2 t3 t4 e = refl
    by false true t3 t4 e = refl
    by false false true t4 e = refl
    by false false false true e = refl
    by false false false false e = rw e refl

pub text-again : (text : List ℕ) → text_spelt (text_token text) ≡ Some text
text-again [] = refl
text-again (b ∷ text) =
    let r = reads_text Plain (b ∷ text) in
    ap (λ (t : Bool). cond {A = Option (List ℕ)} t (Some []) (option_map bytes_of (escaped_bytes_of Plain (text_token (b ∷ text))))) (not_empty b (flat_map (byte_spelling Plain) text))
    ∙ ap (option_map bytes_of) r.1 ∙ ap (λ (xs : List ℕ). Some xs) r.2

positive : (k : ℕ) → nat_lt 0 (suc k) ≡ true
positive k = grind (arith, nat_tests)

pub token-some : (text : List ℕ) → nat_lt 0 (length (text_token text)) ≡ true
token-some [] = refl
token-some (b ∷ text) = by (eqb b 92) (eqb b 32) (eqb b 10) (eqb b 13)
  where
    by : (t1 t2 t3 t4 : Bool) → nat_lt 0 (length (cond t1 (92 ∷ 92 ∷ []) (cond t2 (92 ∷ 115 ∷ []) (cond t3 (92 ∷ 110 ∷ []) (cond t4 (92 ∷ 114 ∷ []) (b ∷ [])))) ++ flat_map (byte_spelling Plain) text)) ≡ true
    by true t2 t3 t4 = positive (suc (length (flat_map (byte_spelling Plain) text)))
    by false true t3 t4 = positive (suc (length (flat_map (byte_spelling Plain) text)))
    by false false true t4 = positive (suc (length (flat_map (byte_spelling Plain) text)))
    by false false false true = positive (suc (length (flat_map (byte_spelling Plain) text)))
    by false false false false = positive (length (flat_map (byte_spelling Plain) text))

number-signs : (n : ℕ) → n < 2 ^ 64 → is_some (escaped_bytes_of Plain (decimal n)) ≡ true
number-signs n h =
    ap (λ (ds : List ℕ). is_some (escaped_bytes_of Plain ds)) (sym (append-nil (decimal n))) ∙ ap is_some (digits-signs Plain (decimal n) [] [] (decimal-written n h).digits refl)

-- ---- Commas.

part_again : (n : ℕ) (text rest : List ℕ) → nat_lt 0 n ≡ true → Free 44 text → parts_within n (text ++ 44 ∷ rest) ≡ text ∷ parts_within (n - 1) rest
part_again n [] rest e h = rw e refl
part_again n (b ∷ text) rest e h =
    ap (λ (t : Bool). put_byte (t && nat_lt 0 n) b (parts_within (cond (t && nat_lt 0 n) (n - 1) n) (text ++ 44 ∷ rest))) h.0 ∙ ap (onto_first b) (part_again n text rest e h.1)

whole_again : (n : ℕ) (text : List ℕ) → Free 44 text → parts_within n text ≡ text ∷ []
whole_again n [] h = refl
whole_again n (b ∷ text) h =
    ap (λ (t : Bool). put_byte (t && nat_lt 0 n) b (parts_within (cond (t && nat_lt 0 n) (n - 1) n) text)) h.0 ∙ ap (onto_first b) (whole_again n text h.1)

part_of : (n place : ℕ) (rest : List ℕ) → nat_lt 0 n ≡ true → place < 2 ^ 64 → parts_within n (before_comma place rest) ≡ decimal place ∷ parts_within (n - 1) rest
part_of n place rest e h = part_again n (decimal place) rest e (digits-free 44 place (omega arith) h)

-- no part is left to be read
none_left : (text : List ℕ) → parts_within 0 text ≡ text ∷ []
none_left [] = refl
none_left (b ∷ rest) =
    elim (eqb b 44) as (λ t. put_byte (t && false) b (parts_within (cond (t && false) (0 - 1) 0) rest) ≡ (b ∷ rest) ∷ []) [
      | true ↦ ap (onto_first b) (none_left rest)
      | false ↦ ap (onto_first b) (none_left rest)
    ]

parts_again : (p l r k : ℕ) (s : List ℕ) → p < 2 ^ 64 → l < 2 ^ 64 → r < 2 ^ 64 → k < 2 ^ 64
    → parts_within 4 (before_comma p (before_comma l (before_comma r (before_comma k s)))) ≡ decimal p ∷ (decimal l ∷ (decimal r ∷ (decimal k ∷ (s ∷ []))))
parts_again p l r k s hp hl hr hk =
    part_of 4 p (before_comma l (before_comma r (before_comma k s))) refl hp
    ∙ ap (λ (ps : List (List ℕ)). decimal p ∷ ps) (part_of 3 l (before_comma r (before_comma k s)) refl hl
    ∙ ap (λ (ps : List (List ℕ)). decimal l ∷ ps) (part_of 2 r (before_comma k s) refl hr
    ∙ ap (λ (ps : List (List ℕ)). decimal r ∷ ps) (part_of 1 k s refl hk
    ∙ ap (λ (ps : List (List ℕ)). decimal k ∷ ps) (none_left s))))

-- ---- What a token says.

-- The token says the break, and passes its tests of reading and numbers.
pub record Tells (token : List ℕ) (b : Break) : Type 0 where
  pub readable : is_readable token ≡ true
  pub numbers : list_all is_number (numerals_of token) ≡ true
  pub listed : break_of_token token ≡ b
  pub comma : has_comma token ≡ is_some b.change
  pub whole : is_some b.change ≡ true → has_five_parts token ≡ true
  pub utf8 : IsUtf8 token
  pub free : (c : ℕ) → IsGap c → Free c token

above : (k : ℕ) → 0 < k → nat_lt 0 k ≡ true
above k h = grind (arith, nat_tests)

long : (n : ℕ) (rest : List ℕ) → n < 2 ^ 64 → nat_lt 0 (length (before_comma n rest)) ≡ true
long n rest h = above (length (before_comma n rest)) (omega (arith, length-append (decimal n) (44 ∷ rest), decimal_nonempty n h))

short : (n : ℕ) → n < 2 ^ 64 → nat_lt 0 (length (decimal n)) ≡ true
short n h = above (length (decimal n)) (decimal_nonempty n h)

pub tells_place : (place : ℕ) → place < 2 ^ 64 → Tells (decimal place) (record { place = place; change = None })
tells_place place h =
    let e = whole_again 4 (decimal place) (digits-free 44 place (omega arith) h) in
    let n = decimal-number place h in
    record {
      readable = and_from (nat_lt 0 (length (decimal place)) && list_all (λ w. is_some (escaped_bytes_of Plain w)) (take 4 (parts_of (decimal place)))) (list_all (λ w. is_some (text_spelt w)) (drop 4 (parts_of (decimal place))))
          (and_from (nat_lt 0 (length (decimal place))) (list_all (λ w. is_some (escaped_bytes_of Plain w)) (take 4 (parts_of (decimal place)))) (short place h)
          (ap (λ (ps : List (List ℕ)). list_all (λ w. is_some (escaped_bytes_of Plain w)) (take 4 ps)) e ∙ and_from (is_some (escaped_bytes_of Plain (decimal place))) true (number-signs place h) refl))
          (ap (λ (ps : List (List ℕ)). list_all (λ w. is_some (text_spelt w)) (drop 4 ps)) e);
      numbers = ap (λ (ps : List (List ℕ)). list_all is_number (cond (nat_lt 1 (length ps)) (take (length ps - 1) ps) ps)) e ∙ and_from (is_number (decimal place)) true n.0 refl;
      listed = ap (λ (ps : List (List ℕ)). record { place = number (get_or ps 0 []); change = cond {A = Option Change} (nat_lt 1 (length ps)) (Some (change_of_token (decimal place))) None }) e ∙ (λ i. record { place = n.1 i; change = None });
      comma = ap (λ (ps : List (List ℕ)). nat_lt 1 (length ps)) e;
      whole = λ some. absurd cc;
      utf8 = decimal-utf8 place h;
      free = λ c gap. number-free c gap place h;
    }

four : (a b c d : Bool) → a ≡ true → b ≡ true → c ≡ true → d ≡ true → (a && (b && (c && (d && true)))) ≡ true
four a b c d x y z w = rw (x, y, z, w) refl

pub tells_change : (place : ℕ) (c : Change) → place < 2 ^ 64 → c.left < 2 ^ 64 → c.right < 2 ^ 64 → c.breakpoint < 2 ^ 64 → IsUtf8 c.substitution
    → Tells (break_token place (Some c)) (record { place = place; change = Some c })
tells_change place c hp hl hr hk u =
    let d = decimal place in
    let l = decimal c.left in
    let r = decimal c.right in
    let k = decimal c.breakpoint in
    let s = text_token c.substitution in
    let token = break_token place (Some c) in
    let e : parts_within 4 token ≡ d ∷ (l ∷ (r ∷ (k ∷ (s ∷ [])))) = parts_again place c.left c.right c.breakpoint s hp hl hr hk in
    let np = decimal-number place hp in
    let nl = decimal-number c.left hl in
    let nr = decimal-number c.right hr in
    let nk = decimal-number c.breakpoint hk in
    let t = text-again c.substitution in
    record {
      readable = and_from (nat_lt 0 (length token) && list_all (λ w. is_some (escaped_bytes_of Plain w)) (take 4 (parts_of token))) (list_all (λ w. is_some (text_spelt w)) (drop 4 (parts_of token)))
          (and_from (nat_lt 0 (length token)) (list_all (λ w. is_some (escaped_bytes_of Plain w)) (take 4 (parts_of token))) (long place (before_comma c.left (before_comma c.right (before_comma c.breakpoint s))) hp)
          (ap (λ (ps : List (List ℕ)). list_all (λ w. is_some (escaped_bytes_of Plain w)) (take 4 ps)) e
          ∙ four (is_some (escaped_bytes_of Plain d)) (is_some (escaped_bytes_of Plain l)) (is_some (escaped_bytes_of Plain r)) (is_some (escaped_bytes_of Plain k)) (number-signs place hp) (number-signs c.left hl) (number-signs c.right hr) (number-signs c.breakpoint hk)))
          (ap (λ (ps : List (List ℕ)). list_all (λ w. is_some (text_spelt w)) (drop 4 ps)) e ∙ and_from (is_some (text_spelt s)) true (ap is_some t) refl);
      numbers = ap (λ (ps : List (List ℕ)). list_all is_number (cond (nat_lt 1 (length ps)) (take (length ps - 1) ps) ps)) e
          ∙ four (is_number d) (is_number l) (is_number r) (is_number k) np.0 nl.0 nr.0 nk.0;
      listed = ap (λ (ps : List (List ℕ)). record { place = number (get_or ps 0 []); change = cond {A = Option Change} (nat_lt 1 (length ps)) (Some (record { left = number (get_or ps 1 []); right = number (get_or ps 2 []); substitution = unwrap_or (text_spelt (get_or ps 4 [])) []; breakpoint = number (get_or ps 3 []) })) None }) e
          ∙ (λ i. record { place = np.1 i; change = Some (record { left = nl.1 i; right = nr.1 i; substitution = unwrap_or (t i) []; breakpoint = nk.1 i }) });
      comma = ap (λ (ps : List (List ℕ)). nat_lt 1 (length ps)) e;
      whole = λ some. ap (λ (ps : List (List ℕ)). eqb (length ps) 5 && nat_lt 0 (length (get_or ps 4 []))) e ∙ token-some c.substitution;
      utf8 = comma-utf8 place (before_comma c.left (before_comma c.right (before_comma c.breakpoint s))) hp (comma-utf8 c.left (before_comma c.right (before_comma c.breakpoint s)) hl (comma-utf8 c.right (before_comma c.breakpoint s) hr (comma-utf8 c.breakpoint s hk (token-utf8 c.substitution u))));
      free = λ b gap. comma-free b gap place (before_comma c.left (before_comma c.right (before_comma c.breakpoint s))) hp (comma-free b gap c.left (before_comma c.right (before_comma c.breakpoint s)) hl (comma-free b gap c.right (before_comma c.breakpoint s) hr (comma-free b gap c.breakpoint s hk (text-free b gap c.substitution))));
    }

below : (n : ℕ) → nat_lt n (2 ^ 64) ≡ true → n < 2 ^ 64
below n e = grind (arith, nat_tests)

-- each break that can be said
pub tells : (place : ℕ) (change : Option Change) → fits_usize place ≡ true → can_be_written_if_any change ≡ true → Tells (break_token place change) (record { place = place; change = change })
tells place None h w = tells_place place (below place h)
tells place (Some c) h w =
    let w3 = first_so (fits_usize c.left && fits_usize c.right && fits_usize c.breakpoint) (is_utf8 c.substitution) w in
    let w2 = first_so (fits_usize c.left && fits_usize c.right) (fits_usize c.breakpoint) w3 in
    tells_change place c (below place h)
    (below c.left (first_so (fits_usize c.left) (fits_usize c.right) w2))
    (below c.right (second_so (fits_usize c.left) (fits_usize c.right) w2))
    (below c.breakpoint (second_so (fits_usize c.left && fits_usize c.right) (fits_usize c.breakpoint) w3))
    (IsUtf8-from_is_utf8 c.substitution (second_so (fits_usize c.left && fits_usize c.right && fits_usize c.breakpoint) (is_utf8 c.substitution) w))

-- Only an extended text has changes.
abbrev pub is_allowed : Kind → Option Change → Bool
is_allowed kind None = true
is_allowed kind (Some c) = is_extended kind

-- The test Change: a break of an `e` line, or a change of a `p` line that belongs to a value.
module _ (form : Form) (in_pattern : Bool) (marks : List PatternElement) (text : List ℕ) where
  pub good : (token : List ℕ) (place : ℕ) (change : Option Change) → Tells token (record { place = place; change = change }) → is_allowed form.kind change ≡ true → stays_within text place change ≡ true
      → (in_pattern ≡ true → (is_some change ≡ true) × (has_value_at marks place ≡ true)) → is_good_later_token form in_pattern marks text token ≡ true
  good token place None tells w stays belongs =
      ap (λ (t : Bool). cond t (is_extended form.kind && has_five_parts token && keeps_within text (place_of_token token) (change_of_token token) && (not in_pattern || has_value_at marks (place_of_token token))) (not in_pattern)) tells.comma
      ∙ off in_pattern (λ e. (belongs e).0)
    where
      off : (t : Bool) → (t ≡ true → false ≡ true) → not t ≡ true
      off true h = h refl
      off false h = refl
  good token place (Some c) tells w stays belongs =
      let at : place_of_token token ≡ place = ap (λ (b : Break). b.place) tells.listed in
      let says : Some (change_of_token token) ≡ Some c = sym (ap (λ (t : Bool). cond {A = Option Change} t (Some (change_of_token token)) None) tells.comma) ∙ ap (λ (b : Break). b.change) tells.listed in
      let is : change_of_token token ≡ c = cc in
      ap (λ (t : Bool). cond t (is_extended form.kind && has_five_parts token && keeps_within text (place_of_token token) (change_of_token token) && (not in_pattern || has_value_at marks (place_of_token token))) (not in_pattern)) tells.comma
      ∙ ap (λ (p : ℕ). is_extended form.kind && has_five_parts token && keeps_within text p (change_of_token token) && (not in_pattern || has_value_at marks p)) at
      ∙ ap (λ (ch : Change). is_extended form.kind && has_five_parts token && keeps_within text place ch && (not in_pattern || has_value_at marks place)) is
      ∙ all (is_extended form.kind) (has_five_parts token) (keeps_within text place c) (has_value_at marks place) in_pattern
      w (tells.whole refl) (second_so (fits_usize place && can_be_written c) (keeps_within text place c) stays) (λ e. (belongs e).1)
    where
      all : (a b d h t : Bool) → a ≡ true → b ≡ true → d ≡ true → (t ≡ true → h ≡ true) → (a && b && d && (not t || h)) ≡ true
      all a b d h true x y z v = rw (x, y, z, v refl) refl
      all a b d h false x y z v = rw (x, y, z) refl
