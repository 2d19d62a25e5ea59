-- The digits of a word's places while the patterns are met.
use Rattle.std.specs.Prelude.{◌≡◌, ℕ, ◌<◌, ◌++◌, List, [], ◌∷◌, length, slice_index}
use Rattle.libhyphen_rule.specs.Counting.{Counted}
use Rattle.libhyphen_rule.specs.OneLevel.{Offer, offers_of, digit_behind}

-- The digits are those that are given so far, for each byte that of the place behind it.
abbrev pub HasDigits : List Offer → List ℕ → Type 0
HasDigits given digits =
    (byte : ℕ) → byte < length digits → slice_index digits byte ≡ digit_behind given (length digits) byte

-- The offers before another one, and with it.
abbrev pub TakesOffer : ℕ → ℕ → List ℕ → List ℕ → Type 0
TakesOffer place digit old new =
    (given : List Offer) (o : Offer) → o.place ≡ place → o.digit ≡ digit → HasDigits given old
    → HasDigits (given ++ o ∷ []) new

-- The same for the offers of a pattern.
abbrev pub TakesPattern : ℕ → List ℕ → List ℕ → List ℕ → Type 0
TakesPattern start digits old new =
    (given : List Offer) (c : Counted) → c.start ≡ start → c.digits ≡ digits → HasDigits given old
    → HasDigits (given ++ offers_of c) new
