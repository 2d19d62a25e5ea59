-- How far the lines that begin at a place reach.
use Rattle.std.specs.Prelude.{◌≡◌, ℕ, ◌+◌, ◌<◌, ◌≤◌, List, length, sum_by, slice_range}
use Rattle.line_division.specs.declared.stretch.Stretch.{Stretch}
use Rattle.line_division.specs.declared.reach.Reach.{Reach}
use Rattle.line_division.specs.Lines.{stretch_at, joined_width}

-- No line from a start that goes past the last stretch fits, whatever its opening and its closing are.
pub record IsReach (stretches : List Stretch) (columns start : ℕ) (reach : Reach) : Type 0 where
  pub from : start ≤ reach.last
  pub within : reach.last < length stretches
  pub joined : reach.joined ≡ sum_by joined_width (slice_range stretches start reach.last)
  pub small : reach.joined ≤ columns
  pub beyond : (k : ℕ) → reach.last < k → k < length stretches
      → columns < sum_by joined_width (slice_range stretches start k) + (stretch_at stretches k).width

-- The columns of a line from a start, before its last stretch.
abbrev pub columns_before : List Stretch → ℕ → ℕ → ℕ
columns_before stretches start last =
    (stretch_at stretches start).opening + sum_by joined_width (slice_range stretches start last)

-- No closing has more columns.
abbrev pub IsMostClosing : List Stretch → ℕ → Type 0
IsMostClosing stretches most = (k : ℕ) → (stretch_at stretches k).closing ≤ most
