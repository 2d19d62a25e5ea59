-- Paragraphs in which nothing but what is spent counts.
use Rattle.std.specs.Prelude.{◌≡◌, ℕ, ◌+◌, ◌≤◌, Option, None, List}
use Rattle.line_division.specs.declared.stretch.Stretch.{Stretch}
use Rattle.line_division.specs.declared.cost.Cost.{Cost}
use Rattle.line_division.specs.declared.problem.Widest.{Widest}
use Rattle.line_division.specs.Lines.{stretch_at}

-- The columns of a line that holds one stretch.
abbrev pub alone_width : Stretch → ℕ
alone_width stretch = stretch.opening + stretch.width + stretch.closing

-- No stretch has more columns before it, of its own text or after it.
pub record AreMost (stretches : List Stretch) (most : Widest) : Type 0 where
  pub opening : (k : ℕ) → (stretch_at stretches k).opening ≤ most.opening
  pub width : (k : ℕ) → (stretch_at stretches k).width ≤ most.width
  pub closing : (k : ℕ) → (stretch_at stretches k).closing ≤ most.closing

-- No line is over a ladder, since there is none, and each single stretch fits.
abbrev pub IsPlain : List Stretch → ℕ → Option ℕ → Type 0
IsPlain stretches columns ladder = (ladder ≡ None) × ((k : ℕ) → alone_width (stretch_at stretches k) ≤ columns)

-- A cost has no excess and no lines over a ladder.
abbrev pub IsSpentAlone : Cost → Type 0
IsSpentAlone cost = (cost.excess ≡ 0) × (cost.over ≡ 0)
