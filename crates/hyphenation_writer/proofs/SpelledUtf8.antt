-- Tokens written for UTF-8 are UTF-8.
use Rattle.std.proofs.Common.{◌≡◌, ℕ, suc, ◌+◌, ◌^◌, ◌<◌, ◌≤◌, Bool, true, false, cond, ◌&&◌, ◌||◌, eqb, nat_le, nat_lt, List, [], ◌∷◌, ◌++◌, length, get_or, Option, refl, sym, ap, subst, ◌∙◌, append_assoc, arith, length-append}
use Rattle.std.specs.Prelude.{IsUtf8, IsCharBoundary, flat_map, decimal}
use Rattle.std.proofs.lemmas.Bool.{eqb-true, leb-true}
use Rattle.std.proofs.lemmas.Bool.Decides.{nat_tests}
use Rattle.std.proofs.lemmas.List.{take_at, drop_at, append-nil}
use Rattle.std.proofs.Math.Seq.{get_or-append_seam}
use Rattle.std.proofs.lemmas.Str.{IsUtf8-append, IsUtf8-take, IsUtf8-drop, IsUtf8-nil}
use Rattle.hyphenation_breaks.specs.Break.{Change, is_boundary}
use Rattle.hyphenation_grammar.specs.Tokens.{escaped_also, pattern_escapes}
use Rattle.hyphenation_writer.specs.Canonical.{byte_spelling, element_spelling, elements_for, text_token, before_comma}
use Rattle.hyphenation_breaks.specs.declared.entry.Entry.{Entry}
use Rattle.hyphenation_grammar.specs.declared.tokens.Escapes.{Escapes}
use Rattle.hyphenation_grammar.specs.declared.tokens.Escapes.TheVariants.{Plain}
use Rattle.hyphenation_grammar.specs.declared.tokens.PatternElement.TheVariants.{Letter, Value}
use Rattle.hyphenation_grammar.specs.declared.form.Version.{Version}
use Rattle.hyphenation_writer.proofs.AsciiBytes.{one_ascii, two_ascii, split_ascii, small_digit}
use Rattle.hyphenation_writer.proofs.Decimals.{decimal-utf8, wide}
use Rattle.hyphenation_writer.proofs.CanonicalTokens.{greatest, greatest-byte}

-- A byte after some bytes p of its character, then what is written of the bytes after it.
step-utf8 : (es : Escapes) (p : List ℕ) (b : ℕ) (text tail : List ℕ) → IsUtf8 (p ++ b ∷ text) → ((q : List ℕ) → IsUtf8 (q ++ text) → IsUtf8 (q ++ tail)) → IsUtf8 (p ++ (byte_spelling es b ++ tail))
step-utf8 es p b text tail u more =
    by (eqb b 92) (eqb b 32) (eqb b 10) (eqb b 13) (escaped_also es b) refl refl refl refl refl (more (p ++ b ∷ []) (subst IsUtf8 (sym (append_assoc p (b ∷ []) text)) u))
  where
    put : (c : ℕ) → b < 128 → c < 128 → IsUtf8 (p ++ ((92 ∷ c ∷ []) ++ tail))
    put c small sc =
        let parts = split_ascii p b text small u in
        IsUtf8-append p (92 ∷ c ∷ tail) parts.0 (IsUtf8-append (92 ∷ c ∷ []) tail (two_ascii 92 c (omega arith) sc) (more [] parts.1))

    by : (t1 t2 t3 t4 t5 : Bool) → eqb b 92 ≡ t1 → eqb b 32 ≡ t2 → eqb b 10 ≡ t3 → eqb b 13 ≡ t4 → escaped_also es b ≡ t5 → IsUtf8 ((p ++ b ∷ []) ++ tail)
        → IsUtf8 (p ++ (cond t1 (92 ∷ 92 ∷ []) (cond t2 (92 ∷ 115 ∷ []) (cond t3 (92 ∷ 110 ∷ []) (cond t4 (92 ∷ 114 ∷ []) (cond t5 (92 ∷ b ∷ []) (b ∷ []))))) ++ tail))
    by true t2 t3 t4 t5 e1 e2 e3 e4 e5 plain = put 92 (subst (λ (x : ℕ). x < 128) (sym (eqb-true b 92 e1)) (omega arith)) (omega arith)
    by false true t3 t4 t5 e1 e2 e3 e4 e5 plain = put 115 (subst (λ (x : ℕ). x < 128) (sym (eqb-true b 32 e2)) (omega arith)) (omega arith)
    by false false true t4 t5 e1 e2 e3 e4 e5 plain = put 110 (subst (λ (x : ℕ). x < 128) (sym (eqb-true b 10 e3)) (omega arith)) (omega arith)
    by false false false true t5 e1 e2 e3 e4 e5 plain = put 114 (subst (λ (x : ℕ). x < 128) (sym (eqb-true b 13 e4)) (omega arith)) (omega arith)
    by false false false false true e1 e2 e3 e4 e5 plain = put b (small_digit es b e5) (small_digit es b e5)
    by false false false false false e1 e2 e3 e4 e5 plain = subst IsUtf8 (append_assoc p (b ∷ []) tail) plain

bytes-utf8 : (es : Escapes) (p text : List ℕ) → IsUtf8 (p ++ text) → IsUtf8 (p ++ flat_map (byte_spelling es) text)
bytes-utf8 es p [] u = u
bytes-utf8 es p (b ∷ text) u = step-utf8 es p b text (flat_map (byte_spelling es) text) u (λ q v. bytes-utf8 es q text v)

pub token-utf8 : (text : List ℕ) → IsUtf8 text → IsUtf8 (text_token text)
token-utf8 [] u = two_ascii 92 101 (omega arith) (omega arith)
token-utf8 (b ∷ text) u = bytes-utf8 Plain [] (b ∷ text) u

-- A boundary of front ++ key at their seam parts p ++ key too.
seam-utf8 : (front p key : List ℕ) (at : ℕ) → length front ≡ at → is_boundary (front ++ key) at ≡ true → IsUtf8 (p ++ key) → IsUtf8 p × IsUtf8 key
seam-utf8 front p [] at len e u = (subst IsUtf8 (append-nil p) u, IsUtf8-nil)
seam-utf8 front p (b ∷ key) at len e u =
    let whole : get_or (front ++ b ∷ key) (length front) 0 ≡ b = get_or-append_seam front b key 0 in
    let here : get_or (p ++ b ∷ key) (length p) 0 ≡ b = get_or-append_seam p b key 0 in
    let long : length (p ++ b ∷ key) ≡ length p + suc (length key) = length-append p (b ∷ key) in
    let leads : 128 ≤ b → 192 ≤ b = lead b (get_or (front ++ b ∷ key) at 0) (nat_le at (length (front ++ b ∷ key))) (ap (λ (k : ℕ). get_or (front ++ b ∷ key) k 0) (sym len) ∙ whole) e in
    let seam : IsCharBoundary (p ++ b ∷ key) (length p) = (omega arith, λ lt big. subst (λ (x : ℕ). 192 ≤ x) (sym here) (leads (subst (λ (x : ℕ). 128 ≤ x) here big))) in (
      subst IsUtf8 (take_at p (b ∷ key) (length p) refl) (IsUtf8-take (p ++ b ∷ key) (length p) u seam),
      subst IsUtf8 (drop_at p (b ∷ key) (length p) refl) (IsUtf8-drop (p ++ b ∷ key) (length p) u seam),
    )
  where
    lead : (b x : ℕ) (t : Bool) → x ≡ b → (t && (nat_lt x 128 || nat_le 192 x)) ≡ true → 128 ≤ b → 192 ≤ b
    lead b x t is e h = grind (arith, nat_tests)

-- Each entry stands on a boundary of the key, with a value that the version says.
abbrev pub AllSeams : Version → List ℕ → List (Entry (Option Change)) → Type 0
AllSeams version whole [] = Unit {0}
AllSeams version whole (e ∷ es) = (is_boundary whole e.place ≡ true) × (e.value ≤ greatest version) × AllSeams version whole es

value-utf8 : (version : Version) (v : ℕ) → v ≤ greatest version → IsUtf8 (element_spelling version (Value v))
value-utf8 version v h = by (nat_le v 9) refl
  where
    by : (t : Bool) → nat_le v 9 ≡ t → IsUtf8 (cond t ((48 + v) ∷ []) (123 ∷ (decimal v ++ 125 ∷ [])))
    by true e = one_ascii (48 + v) (let le = leb-true v 9 e in omega arith)
    by false e =
        IsUtf8-append (123 ∷ []) (decimal v ++ 125 ∷ []) (one_ascii 123 (omega arith))
        (IsUtf8-append (decimal v) (125 ∷ []) (decimal-utf8 v (wide v (greatest-byte version v h))) (one_ascii 125 (omega arith)))

pub marks-utf8 : (version : Version) (whole front p key : List ℕ) (at : ℕ) (es : List (Entry (Option Change))) → whole ≡ front ++ key → length front ≡ at → AllSeams version whole es → IsUtf8 (p ++ key)
    → IsUtf8 (p ++ flat_map (element_spelling version) (elements_for at key es))
marks-utf8 version whole front p [] at [] is len seams u = u
marks-utf8 version whole front p [] at (e ∷ es) is len seams u = IsUtf8-append p (element_spelling version (Value e.value) ++ []) (subst IsUtf8 (append-nil p) u) (IsUtf8-append (element_spelling version (Value e.value)) [] (value-utf8 version e.value seams.1) IsUtf8-nil)
marks-utf8 version whole front p (b ∷ key) at [] is len seams u =
    step-utf8 (pattern_escapes version) p b key (flat_map (element_spelling version) (elements_for (at + 1) key [])) u
    (λ q v. marks-utf8 version whole (front ++ b ∷ []) q key (at + 1) [] (is ∙ sym (append_assoc front (b ∷ []) key)) (omega (arith, length-append front (b ∷ []))) tt v)
marks-utf8 version whole front p (b ∷ key) at (e ∷ es) is len seams u =
    by (eqb e.place at) refl
    (λ q v. marks-utf8 version whole (front ++ b ∷ []) q key (at + 1) es (is ∙ sym (append_assoc front (b ∷ []) key)) (omega (arith, length-append front (b ∷ []))) seams.2 v)
    (λ q v. marks-utf8 version whole (front ++ b ∷ []) q key (at + 1) (e ∷ es) (is ∙ sym (append_assoc front (b ∷ []) key)) (omega (arith, length-append front (b ∷ []))) seams v)
  where
    by : (t : Bool) → eqb e.place at ≡ t
        → ((q : List ℕ) → IsUtf8 (q ++ key) → IsUtf8 (q ++ flat_map (element_spelling version) (elements_for (at + 1) key es)))
        → ((q : List ℕ) → IsUtf8 (q ++ key) → IsUtf8 (q ++ flat_map (element_spelling version) (elements_for (at + 1) key (e ∷ es))))
        → IsUtf8 (p ++ flat_map (element_spelling version) (cond t (Value e.value ∷ Letter b ∷ elements_for (at + 1) key es) (Letter b ∷ elements_for (at + 1) key (e ∷ es))))
    by true t taken left =
        let on : is_boundary (front ++ b ∷ key) at ≡ true = subst (λ (k : ℕ). is_boundary (front ++ b ∷ key) k ≡ true) (eqb-true e.place at t) (subst (λ (w : List ℕ). is_boundary w e.place ≡ true) is seams.0) in
        let parts = seam-utf8 front p (b ∷ key) at len on u in
        IsUtf8-append p (element_spelling version (Value e.value) ++ (byte_spelling (pattern_escapes version) b ++ flat_map (element_spelling version) (elements_for (at + 1) key es))) parts.0
        (IsUtf8-append (element_spelling version (Value e.value)) (byte_spelling (pattern_escapes version) b ++ flat_map (element_spelling version) (elements_for (at + 1) key es)) (value-utf8 version e.value seams.1)
        (step-utf8 (pattern_escapes version) [] b key (flat_map (element_spelling version) (elements_for (at + 1) key es)) parts.1 taken))
    by false t taken left = step-utf8 (pattern_escapes version) p b key (flat_map (element_spelling version) (elements_for (at + 1) key (e ∷ es))) u left

pub comma-utf8 : (n : ℕ) (rest : List ℕ) → n < 2 ^ 64 → IsUtf8 rest → IsUtf8 (before_comma n rest)
comma-utf8 n rest h u = IsUtf8-append (decimal n) (44 ∷ rest) (decimal-utf8 n h) (IsUtf8-append (44 ∷ []) rest (one_ascii 44 (omega arith)) u)
