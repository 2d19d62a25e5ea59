-- UTF-8 split at ASCII bytes: by escapes, values and spaces.
use Rattle.std.proofs.Common.{◌≡◌, ℕ, suc, zero, ◌+◌, ◌-◌, ◌<◌, ◌&&◌, nat_lt, Bool, true, false, cond, eqb, List, [], ◌∷◌, ◌++◌, length, get_or, refl, sym, subst, append_assoc, arith, length-append}
use Rattle.std.specs.Prelude.{IsUtf8, IsCharBoundary}
use Rattle.std.specs.List.{slice_split, onto_first, AllByRecursion}
use Rattle.std.proofs.lemmas.Bool.Decides.{nat_tests}
use Rattle.std.proofs.lemmas.List.{take_at, append-nil}
use Rattle.std.proofs.Math.Seq.{get_or-append_seam, drop-append-add}
use Rattle.std.proofs.lemmas.Str.{IsUtf8-take, IsUtf8-drop, IsUtf8-nil, IsUtf8-from_ascii, IsCharBoundary-after_ascii}
use Rattle.hyphenation_grammar.specs.Tokens.{escaped_also, parts_within, put_byte}
use Rattle.hyphenation_grammar.specs.declared.tokens.Escapes.{Escapes}
use Rattle.hyphenation_grammar.specs.declared.tokens.Escapes.TheVariants.{Plain, Digits, DigitsAndBraces}

pub split_ascii : (p : List ℕ) (b : ℕ) (rest : List ℕ) → b < 128 → IsUtf8 (p ++ b ∷ rest) → IsUtf8 p × IsUtf8 rest
split_ascii p b rest small u =
    let here : get_or (p ++ b ∷ rest) (length p) 0 ≡ b = get_or-append_seam p b rest 0 in
    let long : length (p ++ b ∷ rest) ≡ length p + suc (length rest) = length-append p (b ∷ rest) in
    let at : IsCharBoundary (p ++ b ∷ rest) (length p) = (omega arith, λ lt big. absurd (omega arith)) in
    let after : IsCharBoundary (p ++ b ∷ rest) (length p + 1) = IsCharBoundary-after_ascii (p ++ b ∷ rest) (length p) u (omega arith) (omega arith) in (
      subst IsUtf8 (take_at p (b ∷ rest) (length p) refl) (IsUtf8-take (p ++ b ∷ rest) (length p) u at),
      subst IsUtf8 (drop-append-add p (b ∷ rest) 1) (IsUtf8-drop (p ++ b ∷ rest) (length p + 1) u after),
    )

pub one_ascii : (b : ℕ) → b < 128 → IsUtf8 (b ∷ [])
one_ascii b small = IsUtf8-from_ascii (b ∷ []) (λ i. below i)
  where
    below : (i : ℕ) → get_or (b ∷ []) i 0 < 128
    below zero = small
    below (suc i) = omega arith

pub same_byte : (a b : ℕ) → eqb a b ≡ true → b < 128 → a < 128
same_byte a b e h = grind (arith, nat_tests)

pub small_digit : (es : Escapes) (b : ℕ) → escaped_also es b ≡ true → b < 128
small_digit Plain b e = absurd cc
small_digit Digits b e = grind (arith, nat_tests)
small_digit DigitsAndBraces b e = grind (arith, nat_tests)

-- each of the texts
abbrev pub AllUtf8 : List (List ℕ) → Type 0
AllUtf8 ts = AllByRecursion IsUtf8 ts

abbrev with_front : List ℕ → List (List ℕ) → List (List ℕ)
with_front p [] = p ∷ []
with_front p (t ∷ ts) = (p ++ t) ∷ ts

no_front : (ts : List (List ℕ)) → AllUtf8 (with_front [] ts) → AllUtf8 ts
no_front [] h = tt
no_front (t ∷ ts) h = h

moved_front : (p : List ℕ) (b : ℕ) (ts : List (List ℕ)) → AllUtf8 (with_front (p ++ b ∷ []) ts) → AllUtf8 (with_front p (onto_first b ts))
moved_front p b [] h = h
moved_front p b (t ∷ ts) h = (subst IsUtf8 (append_assoc p (b ∷ []) t) h.0, h.1)

split_from : (c : ℕ) → c < 128 → (p text : List ℕ) → IsUtf8 (p ++ text) → AllUtf8 (with_front p (slice_split (λ b. eqb b c) text))
split_from c small p [] u = (u, tt)
split_from c small p (b ∷ text) u = by (eqb b c) refl (λ v. split_from c small [] text v) (split_from c small (p ++ b ∷ []) text (subst IsUtf8 (sym (append_assoc p (b ∷ []) text)) u))
  where
    by : (t : Bool) → eqb b c ≡ t → (IsUtf8 text → AllUtf8 (with_front [] (slice_split (λ b. eqb b c) text))) → AllUtf8 (with_front (p ++ b ∷ []) (slice_split (λ b. eqb b c) text))
        → AllUtf8 (with_front p (cond t ([] ∷ slice_split (λ b. eqb b c) text) (onto_first b (slice_split (λ b. eqb b c) text))))
    by true e more plain =
        let parts = split_ascii p b text (same_byte b c e small) u in
        (subst IsUtf8 (sym (append-nil p)) parts.0, no_front (slice_split (λ b. eqb b c) text) (more parts.1))
    by false e more plain = moved_front p b (slice_split (λ b. eqb b c) text) plain

-- what stands between ASCII bytes
pub split-utf8 : (c : ℕ) (text : List ℕ) → c < 128 → IsUtf8 text → AllUtf8 (slice_split (λ b. eqb b c) text)
split-utf8 c text small u = no_front (slice_split (λ b. eqb b c) text) (split_from c small [] text u)

any-utf8 : (ts : List (List ℕ)) (k : ℕ) → AllUtf8 ts → IsUtf8 (get_or ts k [])
any-utf8 [] k h = IsUtf8-nil
any-utf8 (t ∷ ts) zero h = h.0
any-utf8 (t ∷ ts) (suc k) h = any-utf8 ts k h.1

-- what stands between the first commas
parts_from : (n : ℕ) (p text : List ℕ) → IsUtf8 (p ++ text) → AllUtf8 (with_front p (parts_within n text))
parts_from n p [] u = (u, tt)
parts_from n p (b ∷ text) u = by (eqb b 44) refl (nat_lt 0 n) (λ v. parts_from (n - 1) [] text v) (parts_from n (p ++ b ∷ []) text (subst IsUtf8 (sym (append_assoc p (b ∷ []) text)) u))
  where
    by : (t : Bool) → eqb b 44 ≡ t → (m : Bool) → (IsUtf8 text → AllUtf8 (with_front [] (parts_within (n - 1) text))) → AllUtf8 (with_front (p ++ b ∷ []) (parts_within n text))
        → AllUtf8 (with_front p (put_byte (t && m) b (parts_within (cond (t && m) (n - 1) n) text)))
    by true e true more plain =
        let parts = split_ascii p b text (same_byte b 44 e (omega arith)) u in
        (subst IsUtf8 (sym (append-nil p)) parts.0, no_front (parts_within (n - 1) text) (more parts.1))
    by true e false more plain = moved_front p b (parts_within n text) plain
    by false e m more plain = moved_front p b (parts_within n text) plain

pub part-utf8 : (n k : ℕ) (text : List ℕ) → IsUtf8 text → IsUtf8 (get_or (parts_within n text) k [])
part-utf8 n k text u = any-utf8 (parts_within n text) k (no_front (parts_within n text) (parts_from n [] text u))
