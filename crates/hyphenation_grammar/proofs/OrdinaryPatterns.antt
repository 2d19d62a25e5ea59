-- Patterns without spaces, escapes and braces: each is one token, whose bytes are read as they stand.
use Rattle.std.proofs.Common.{◌≡◌, ◌∙◌, ◌+◌, ◌<◌, ◌≤◌, ◌&&◌, ℕ, zero, suc, Bool, true, false, cond, not, eqb, nat_lt, List, [], ◌∷◌, get_or, length, take, drop, subst, fold, Option, Some, None, refl, sym, ap, arith}
use Rattle.std.proofs.lemmas.List.{get_or-take, length-take-le}
use Rattle.std.proofs.lemmas.Bool.Decides.{nat_tests}
use Rattle.std.proofs.lemmas.List.Folds.{list_all_more}
use Rattle.std.specs.Prelude.{IfSome, codes, position}
use Rattle.std.specs.List.{list_all, slice_split, onto_first, position_or_len, prefix_len}
use Rattle.std.specs.Option.{option_map}
use Rattle.std.proofs.lemmas.Bool.{and_parts}
use Rattle.hyphenation_grammar.specs.Lines.{strip_prefix}
use Rattle.hyphenation_grammar.specs.Parsed.{IsPatternLine, IsPatternToken, ReadPattern, nothing_read, read_pattern, with_spelt}
use Rattle.hyphenation_grammar.specs.Tokens.{unescape_byte, escaped_bytes_after, pattern_bytes, pattern_escapes}
use Rattle.hyphenation_grammar.specs.declared.form.Version.{Version}
use Rattle.hyphenation_grammar.proofs.PatternBytes.{byte_more}
use Rattle.hyphenation_grammar.specs.Private.Tokens.{is_ordinary}

-- an ordinary byte is no space, no line feed and no backslash
no_feed : (b : ℕ) → is_ordinary b ≡ true → eqb b 10 ≡ false
no_feed b h = grind (arith, nat_tests)

no_space : (b : ℕ) → is_ordinary b ≡ true → eqb b 32 ≡ false
no_space b h = grind (arith, nat_tests)

pub no_backslash : (b : ℕ) → is_ordinary b ≡ true → eqb b 92 ≡ false
no_backslash b h = grind (arith, nat_tests)

one_token : (text : List ℕ) → list_all is_ordinary text ≡ true → slice_split (λ b. eqb b 32) text ≡ text ∷ []
one_token [] h = refl
one_token (b ∷ rest) h =
    let here = and_parts (is_ordinary b) (list_all is_ordinary rest) h in
    by (eqb b 32) (no_space b here.0) (one_token rest here.1)
  where
    by : (t : Bool) → t ≡ false → slice_split (λ b. eqb b 32) rest ≡ rest ∷ [] → cond t ([] ∷ slice_split (λ b. eqb b 32) rest) (onto_first b (slice_split (λ b. eqb b 32) rest)) ≡ (b ∷ rest) ∷ []
    by true off e = absurd cc
    by false off e = ap (onto_first b) e

-- one ordinary byte more
pub ordinary_more : (text : List ℕ) (i : ℕ) → i < length text → list_all is_ordinary (take i text) ≡ true → is_ordinary (get_or text i 0) ≡ true → list_all is_ordinary (take (i + 1) text) ≡ true
ordinary_more text i lt so_far here = list_all_more is_ordinary text i 0 lt ∙ (λ k. so_far k && here k)

-- the first line feed stands behind ordinary bytes
feed_from : (text : List ℕ) (at : ℕ) → at < length text → list_all is_ordinary (take at text) ≡ true → get_or text at 0 ≡ 10 → position_or_len (λ b. eqb b 10) text ≡ at
feed_from [] at lt all feed = absurd (omega arith)
feed_from (b ∷ rest) zero lt all feed = by (eqb b 10) (same b feed)
  where
    same : (b : ℕ) → b ≡ 10 → eqb b 10 ≡ true
    same b e = grind (arith, nat_tests)

    by : (t : Bool) → t ≡ true → cond (not t) (1 + prefix_len (λ x. not (eqb x 10)) rest) 0 ≡ 0
    by true e = refl
    by false e = absurd cc
feed_from (b ∷ rest) (suc k) lt all feed =
    let here = and_parts (is_ordinary b) (list_all is_ordinary (take k rest)) all in
    by (eqb b 10) (no_feed b here.0) (feed_from rest k (omega (arith, lt)) here.1 feed)
  where
    by : (t : Bool) → t ≡ false → prefix_len (λ x. not (eqb x 10)) rest ≡ k → cond (not t) (1 + prefix_len (λ x. not (eqb x 10)) rest) 0 ≡ suc k
    by true off e = absurd cc
    by false off e = omega (arith, e)

feed_at : (text : List ℕ) (at : ℕ) → at < length text → list_all is_ordinary (take at text) ≡ true → get_or text at 0 ≡ 10 → Some at ≡ position (λ b. eqb b 10) text
feed_at text at lt all feed = by (position_or_len (λ b. eqb b 10) text) (feed_from text at lt all feed)
  where
    below : (n : ℕ) → n ≡ at → nat_lt n (length text) ≡ true
    below n e = grind (arith, nat_tests)

    by : (n : ℕ) → n ≡ at → Some at ≡ cond (nat_lt n (length text)) (Some n) None
    by n e = ap (λ (k : ℕ). Some k) (sym e) ∙ sym (ap (λ (t : Bool). cond t (Some n) None) (below n e))

-- where the byte after ordinary ones ends a token
pub ends_at : (found : Option ℕ) (text : List ℕ) (place : ℕ) → place < length text → list_all is_ordinary (take place text) ≡ true
    → IfSome found (λ end. (end ≡ place) × (0 < place) × (get_or text place 0 ≡ 10)) → IfSome found (λ end. Some end ≡ position (λ b. eqb b 10) text)
ends_at None text place lt all h = tt
ends_at (Some end) text place lt all h = ap (λ (k : ℕ). Some k) h.0 ∙ feed_at text place lt all h.2

pub one_token_to : (found : Option ℕ) (text : List ℕ) (place : ℕ) → list_all is_ordinary (take place text) ≡ true
    → IfSome found (λ end. (end ≡ place) × (0 < place) × (get_or text place 0 ≡ 10)) → IfSome found (λ end. (0 < end) × (slice_split (λ b. eqb b 32) (take end text) ≡ take end text ∷ []))
one_token_to None text place all h = tt
one_token_to (Some end) text place all h = subst (λ (k : ℕ). (0 < k) × (slice_split (λ b. eqb b 32) (take k text) ≡ take k text ∷ [])) (sym h.0) (h.1, one_token (take place text) all)

-- nothing of the token is left at its end
pub nothing_left : (n : ℕ) (text : List ℕ) → drop n (take n text) ≡ []
nothing_left zero text = refl
nothing_left (suc n) [] = refl
nothing_left (suc n) (b ∷ rest) = nothing_left n rest

-- what was read of the ordinary bytes before the end of a token is the whole of it
pub read_to : (found : Option ℕ) (text : List ℕ) (place : ℕ) (old new : ReadPattern) → place ≤ length text → new ≡ old
    → IfSome found (λ end. (end ≡ place) × (0 < place) × (get_or text place 0 ≡ 10))
    → ((version : Version) (n : ℕ) → place ≤ n → n ≤ length text → option_map (fold (with_spelt version) old) (escaped_bytes_after (pattern_escapes version) false (drop place (take n text))) ≡ option_map (fold (with_spelt version) nothing_read) (pattern_bytes version (take n text)))
    → IfSome found (λ end. (version : Version) → Some new ≡ read_pattern version (take end text))
read_to None text place old new le same h read = tt
read_to (Some end) text place old new le same h read = λ version.
    ap (λ (r : ReadPattern). Some r) same
    ∙ sym (ap (λ (bs : List ℕ). option_map (fold (with_spelt version) old) (escaped_bytes_after (pattern_escapes version) false bs)) (nothing_left place text))
    ∙ read version place (omega arith) le
    ∙ ap (λ (k : ℕ). read_pattern version (take k text)) (sym h.0)

-- one ordinary byte more of a token that ends somewhere after it
pub byte_of_more : (version : Version) (text : List ℕ) (i n : ℕ) (old new : ReadPattern) (whole : Option ReadPattern) → i < n → n ≤ length text → is_ordinary (get_or text i 0) ≡ true
    → Some new ≡ option_map (fold (with_spelt version) old) (unescape_byte (pattern_escapes version) false (get_or text i 0))
    → option_map (fold (with_spelt version) old) (escaped_bytes_after (pattern_escapes version) false (drop i (take n text))) ≡ whole
    → option_map (fold (with_spelt version) new) (escaped_bytes_after (pattern_escapes version) false (drop (i + 1) (take n text))) ≡ whole
byte_of_more version text i n old new whole lt le ordinary read so_far =
    let same : get_or (take n text) i 0 ≡ get_or text i 0 = get_or-take n text i 0 lt in
    byte_more version (take n text) i false false true old new whole (omega (arith, lt, length-take-le n text le)) (sym (ap (λ (b : ℕ). eqb b 92) same ∙ no_backslash (get_or text i 0) ordinary)) refl
    (read ∙ ap (λ (b : ℕ). option_map (fold (with_spelt version) old) (unescape_byte (pattern_escapes version) false b)) (sym same)) so_far

-- a text that begins with `p `
pub begins_p : (text rest : List ℕ) → Some rest ≡ strip_prefix (codes "p ") text → text ≡ 112 ∷ 32 ∷ rest
begins_p [] rest e = absurd cc
begins_p (a ∷ []) rest e = by (eqb a 112) e
  where
    by : (t : Bool) → Some rest ≡ cond (t && false) (Some []) None → (a ∷ []) ≡ 112 ∷ 32 ∷ rest
    by true e = absurd cc
    by false e = absurd cc
begins_p (a ∷ b ∷ more) rest e = by (eqb a 112) (eqb b 32) refl refl e
  where
    equal : (x y : ℕ) → eqb x y ≡ true → x ≡ y
    equal x y e = grind (arith, nat_tests)

    by : (s t : Bool) → eqb a 112 ≡ s → eqb b 32 ≡ t → Some rest ≡ cond (s && (t && true)) (Some more) None → (a ∷ b ∷ more) ≡ 112 ∷ 32 ∷ rest
    by true true first second e = (λ i. equal a 112 first i ∷ equal b 32 second i ∷ rest_is i)
      where
        rest_is : more ≡ rest
        rest_is = cc
    by true false first second e = absurd cc
    by false t first second e = absurd cc

-- a line feed two bytes further
further : (rest : List ℕ) (at : ℕ) → Some at ≡ position (λ b. eqb b 10) rest → Some (at + 2) ≡ position (λ b. eqb b 10) (112 ∷ 32 ∷ rest)
further rest at e = by (prefix_len (λ x. not (eqb x 10)) rest) e
  where
    two : (n : ℕ) → nat_lt n (length rest) ≡ true → nat_lt (1 + (1 + n)) (suc (suc (length rest))) ≡ true
    two n e = grind (arith, nat_tests)

    next : (n : ℕ) → n + 2 ≡ 1 + (1 + n)
    next n = omega arith

    by : (n : ℕ) → Some at ≡ cond (nat_lt n (length rest)) (Some n) None → Some (at + 2) ≡ cond (nat_lt (1 + (1 + n)) (suc (suc (length rest)))) (Some (1 + (1 + n))) None
    by n e = known (nat_lt n (length rest)) refl e
      where
        known : (t : Bool) → nat_lt n (length rest) ≡ t → Some at ≡ cond t (Some n) None → Some (at + 2) ≡ cond (nat_lt (1 + (1 + n)) (suc (suc (length rest)))) (Some (1 + (1 + n))) None
        known true lt e =
            let same : at ≡ n = cc in
            ap (λ (k : ℕ). Some (k + 2)) same ∙ ap (λ (k : ℕ). Some k) (next n) ∙ sym (ap (λ (t : Bool). cond t (Some (1 + (1 + n))) None) (two n lt))
        known false lt e = absurd cc

pub feed_further : (text rest : List ℕ) (at : ℕ) → Some rest ≡ strip_prefix (codes "p ") text → Some at ≡ position (λ b. eqb b 10) rest → Some (at + 2) ≡ position (λ b. eqb b 10) text
feed_further text rest at start e = further rest at e ∙ ap (position (λ b. eqb b 10)) (sym (begins_p text rest start))

-- the line that is cut off, where its token was read
pub line_was_read : (pattern : ReadPattern) (text rest : List ℕ) (at : ℕ) → Some rest ≡ strip_prefix (codes "p ") text → IsPatternToken pattern (take at rest) → IsPatternLine pattern (take (at + 2) text)
line_was_read pattern text rest at start read =
    let two : at + 2 ≡ suc (suc at) = omega arith in
    let line : take (at + 2) text ≡ 112 ∷ 32 ∷ take at rest = ap (λ (k : ℕ). take k text) two ∙ ap (take (suc (suc at))) (begins_p text rest start) in
    (take at rest, sym (ap (strip_prefix (codes "p ")) line), read)
