-- Taking the first of a list of items to come.
use Rattle.std.specs.Prelude.{◌≡◌, ℕ, List, [], ◌∷◌, Option, MatchOption, IfSome, Result, IfOk}
use Rattle.std.specs.String.{string_bytes}
use Rattle.std.specs.declared.string.String.{String}

-- The first item to come is taken, or none is to come. Nothing is said of later calls.
abbrev pub TakesFirst : {S A X : Type 0} → (A → X) → (S → List X) → S → Option A → S → Type 0
TakesFirst view list old item new = MatchOption item (list old ≡ []) (λ x. list old ≡ view x ∷ list new)

-- The first item to come is taken, or none is to come. The item holds it, or an error in its place.
abbrev pub TakesFirstOrRefuses : {S A X : Type 0} → (A → Option X) → (S → List X) → S → Option A → S → Type 0
TakesFirstOrRefuses {X = X} held list old item new =
    MatchOption item (list old ≡ [])
    (λ x. (first : X) × (list old ≡ first ∷ list new) × IfSome (held x) (λ value. value ≡ first))

-- The first text to come is taken, and returned or replaced by an error. At the end `None` is returned, and the end
-- stays.
abbrev pub YieldsMarked : {Z E : Type 0} → List (List ℕ) → Option (Result (String Z) E) → List (List ℕ) → Type 0
YieldsMarked old item new =
    MatchOption item ((old ≡ []) × (new ≡ []))
    (λ x. (first : List ℕ) × (old ≡ first ∷ new) × IfOk x (λ text. string_bytes text ≡ first))
