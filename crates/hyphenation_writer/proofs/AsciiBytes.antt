-- UTF-8 at ASCII bytes.
use Rattle.std.proofs.Common.{◌≡◌, ℕ, suc, zero, ◌+◌, ◌<◌, true, List, [], ◌∷◌, ◌++◌, length, get_or, subst, refl, arith, length-append}
use Rattle.std.specs.Prelude.{IsUtf8, IsCharBoundary}
use Rattle.std.proofs.lemmas.Bool.Decides.{nat_tests}
use Rattle.std.proofs.lemmas.List.{take_at}
use Rattle.std.proofs.Math.Seq.{get_or-append_seam, drop-append-add}
use Rattle.std.proofs.lemmas.Str.{IsUtf8-append, IsUtf8-take, IsUtf8-drop, IsUtf8-from_ascii, IsCharBoundary-after_ascii}
use Rattle.hyphenation_grammar.specs.Tokens.{escaped_also}
use Rattle.hyphenation_grammar.specs.declared.tokens.Escapes.{Escapes}
use Rattle.hyphenation_grammar.specs.declared.tokens.Escapes.TheVariants.{Plain, Digits, DigitsAndBraces}

pub one_ascii : (b : ℕ) → b < 128 → IsUtf8 (b ∷ [])
one_ascii b small = IsUtf8-from_ascii (b ∷ []) (λ i. below i)
  where
    below : (i : ℕ) → get_or (b ∷ []) i 0 < 128
    below zero = small
    below (suc i) = omega arith

pub two_ascii : (a b : ℕ) → a < 128 → b < 128 → IsUtf8 (a ∷ b ∷ [])
two_ascii a b sa sb = IsUtf8-append (a ∷ []) (b ∷ []) (one_ascii a sa) (one_ascii b sb)

-- A text split at an ASCII byte.
pub split_ascii : (p : List ℕ) (b : ℕ) (rest : List ℕ) → b < 128 → IsUtf8 (p ++ b ∷ rest) → IsUtf8 p × IsUtf8 rest
split_ascii p b rest small u =
    let here : get_or (p ++ b ∷ rest) (length p) 0 ≡ b = get_or-append_seam p b rest 0 in
    let long : length (p ++ b ∷ rest) ≡ length p + suc (length rest) = length-append p (b ∷ rest) in
    let at : IsCharBoundary (p ++ b ∷ rest) (length p) = (omega arith, λ lt big. absurd (omega arith)) in
    let after : IsCharBoundary (p ++ b ∷ rest) (length p + 1) = IsCharBoundary-after_ascii (p ++ b ∷ rest) (length p) u (omega arith) (omega arith) in (
      subst IsUtf8 (take_at p (b ∷ rest) (length p) refl) (IsUtf8-take (p ++ b ∷ rest) (length p) u at),
      subst IsUtf8 (drop-append-add p (b ∷ rest) 1) (IsUtf8-drop (p ++ b ∷ rest) (length p + 1) u after),
    )

-- A byte that is escaped is ASCII.
pub small_digit : (es : Escapes) (b : ℕ) → escaped_also es b ≡ true → b < 128
small_digit Plain b e = absurd cc
small_digit Digits b e = grind (arith, nat_tests)
small_digit DigitsAndBraces b e = grind (arith, nat_tests)
