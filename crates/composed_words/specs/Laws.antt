-- Laws of words and their NFC.
use Rattle.std.specs.Prelude.{◌≡◌, ℕ, ◌++◌, Bool, true, false, List, take, drop, nat_eq, IsTrue}
use Rattle.std.specs.List.{list_any}
use Rattle.std.specs.Str.{IsAscii}
use Rattle.hyphenation_breaks.specs.Break.{ascend_on, is_boundary}
use Rattle.composed_words.specs.Composed.{carried, composed, is_composed, through_composed}

-- A place is one of some places.
abbrev pub has : List ℕ → ℕ → Bool
has places q = list_any (λ p. nat_eq p q) places

-- A word of ASCII is in NFC.
abbrev pub AsciiIsComposed : Type 0
AsciiIsComposed = (word : List ℕ) → IsAscii word → is_composed word ≡ true

-- Places that are carried back ascend strictly, each on a character boundary of the word.
abbrev pub CarriedAscend : Type 0
CarriedAscend = (word places : List ℕ) → IsTrue (ascend_on word 0 (carried word places))

-- NFC joins nothing over a place that is carried back: the NFC of the word is that of its front and that of its back.
abbrev pub NothingIsJoined : Type 0
NothingIsJoined =
    (word places : List ℕ) (q : ℕ) → has (carried word places) q ≡ true
    → composed (take q word) ++ composed (drop q word) ≡ composed word

-- A word in NFC has its own breaks.
abbrev pub ComposedBreaksAsItIs : Type 0
ComposedBreaksAsItIs = (breaks : List ℕ → List ℕ) (word : List ℕ) → is_composed word ≡ true → through_composed breaks word ≡ breaks word

-- Two words of which neither is in NFC, whose fronts and backs are canonically equivalent: both are broken there, or neither.
abbrev pub EquivalentBreakAlike : Type 0
EquivalentBreakAlike =
    (breaks : List ℕ → List ℕ) (a b : List ℕ) (q r : ℕ) → is_composed a ≡ false → is_composed b ≡ false → composed a ≡ composed b
    → is_boundary a q ≡ true → is_boundary b r ≡ true → composed (take q a) ≡ composed (take r b) → composed (drop q a) ≡ composed (drop r b)
    → has (through_composed breaks a) q ≡ has (through_composed breaks b) r
