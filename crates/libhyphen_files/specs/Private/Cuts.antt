-- A text that is cut at its first byte of a kind.
use Rattle.std.specs.Prelude.{◌≡◌, ℕ, ◌==◌, true, false, List, [], ◌∷◌, Option, MatchOption}
use Rattle.std.specs.Borrow.{Bor}
use Rattle.std.specs.List.{after_first, list_any, slice_split}

-- The rest is the text after the first such byte, if there is one.
abbrev pub IsRest : ℕ → List ℕ → Option (Bor (List ℕ)) → Type 0
IsRest byte text rest =
    MatchOption rest (list_any (λ b. b == byte) text ≡ false)
    (λ r. (list_any (λ b. b == byte) text ≡ true) × (r.now ≡ after_first (λ b. b == byte) text))

-- The parts between such bytes are the front and the parts of the rest.
abbrev pub ArePartsOf : ℕ → List ℕ → List ℕ → Option (Bor (List ℕ)) → Type 0
ArePartsOf byte text front rest =
    MatchOption rest (slice_split (λ b. b == byte) text ≡ front ∷ [])
    (λ r. slice_split (λ b. b == byte) text ≡ front ∷ slice_split (λ b. b == byte) r.now)
