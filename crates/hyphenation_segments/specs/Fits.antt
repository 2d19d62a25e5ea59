-- Breaks that fit a text.
use Rattle.std.specs.Prelude.{ℕ, ◌+◌, ◌≤◌, List, [], ◌∷◌, ⊤}
use Rattle.std.specs.Str.{IsCharBoundary}
use Rattle.hyphenation_breaks.specs.Break.{Break, left_of, begin_of, end_of}

-- A break fits a text after the end of the last range, and from the least place on. Its range begins within the text,
-- and not before that end. Its place and both ends of its range are character boundaries.
pub record BreakFitsAfter (text : List ℕ) (last_end least : ℕ) (b : Break) : Type 0 where
  pub ascends : least ≤ b.place
  pub within : left_of b.change ≤ b.place
  pub apart : last_end ≤ begin_of b
  pub place : IsCharBoundary text b.place
  pub begin : IsCharBoundary text (begin_of b)
  pub end : IsCharBoundary text (end_of b)

-- Each break fits the text after the place and the range of the break before it.
abbrev pub FitsFrom : List ℕ → ℕ → ℕ → List Break → Type 0
FitsFrom text last_end least [] = ⊤
FitsFrom text last_end least (b ∷ bs) = BreakFitsAfter text last_end least b × FitsFrom text (end_of b) (b.place + 1) bs

-- The breaks fit the text: their places ascend strictly, their ranges do not overlap, and all lie in the text on its
-- character boundaries. The empty list fits every text.
abbrev pub Fits : List ℕ → List Break → Type 0
Fits text breaks = FitsFrom text 0 0 breaks
