-- A line of stretches, its width and its cost. Starts and ends are numbers of stretches before them.
use Rattle.std.specs.Prelude.{ℕ, ◌+◌, ◌-◌, ◌*◌, ◌==◌, nat_lt, false, if◌then◌else◌, Option, Some, None, List, length}
use Rattle.std.specs.Prelude.{sum_by, slice_range}
use Rattle.std.specs.List.{slice_index_or}
use Rattle.line_division.specs.declared.stretch.Stretch.{Stretch}
use Rattle.line_division.specs.declared.cost.Cost.{Cost}

-- A stretch without columns, and without a price.
abbrev pub no_stretch : Stretch
no_stretch = record { opening = 0; width = 0; joint = 0; closing = 0; price = 0; hyphenated = false }

-- The stretch of an index, counted from 0.
abbrev pub stretch_at : List Stretch → ℕ → Stretch
stretch_at stretches place = slice_index_or stretches place no_stretch

-- The columns of a stretch that is not the last one of its line.
abbrev pub joined_width : Stretch → ℕ
joined_width stretch = stretch.width + stretch.joint

-- The columns of the line from a start to an end after it. They are the opening of its first stretch, all but the last
-- one with their joints, and the last one with its closing.
abbrev pub line_width : List Stretch → ℕ → ℕ → ℕ
line_width stretches start end =
    (stretch_at stretches start).opening + sum_by joined_width (slice_range stretches start (end - 1))
    + (stretch_at stretches (end - 1)).width + (stretch_at stretches (end - 1)).closing

-- The columns that a line should have at least; the last line has its own number of them.
abbrev pub wanted_columns : List Stretch → ℕ → ℕ → ℕ → ℕ
wanted_columns stretches columns last_columns end = if end == length stretches then last_columns else columns

-- The square of the columns that a line is short of.
abbrev pub raggedness : List Stretch → ℕ → ℕ → ℕ → ℕ → ℕ
raggedness stretches columns last_columns start end =
    (wanted_columns stretches columns last_columns end - line_width stretches start end)
    * (wanted_columns stretches columns last_columns end - line_width stretches start end)

-- The hyphens in a row at a line's end: one more than before where the line ends in a hyphen, and else none.
abbrev pub hyphens_to : List Stretch → ℕ → ℕ → ℕ
hyphens_to stretches before end = if (stretch_at stretches (end - 1)).hyphenated then before + 1 else 0

-- 1 for a line at whose end more hyphens are in a row than a ladder may have, and else 0.
abbrev pub line_over : Option ℕ → ℕ → ℕ
line_over None hyphens = 0
line_over (Some most) hyphens = if nat_lt most hyphens then 1 else 0

-- The cost of a line at whose end this number of hyphens is in a row: the columns that it has too many; whether it is
-- over the ladder; the square of the columns that it is short of, and the price of its end.
abbrev pub line_cost : List Stretch → ℕ → ℕ → Option ℕ → ℕ → ℕ → ℕ → Cost
line_cost stretches columns last_columns ladder hyphens start end = record {
  excess = line_width stretches start end - columns;
  over = line_over ladder hyphens;
  spent = raggedness stretches columns last_columns start end + (stretch_at stretches (end - 1)).price;
}
