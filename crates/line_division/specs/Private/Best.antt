-- The best line to begin at each place, after each run of hyphens.
use Rattle.std.specs.Prelude.{◌≡◌, ℕ, ◌+◌, ◌-◌, ◌*◌, ◌^◌, ◌<◌, ◌≤◌, ◌⊎◌, nat_lt, if◌then◌else◌, Option, Some, None}
use Rattle.std.specs.Prelude.{List, length}
use Rattle.std.specs.List.{slice_index_or}
use Rattle.line_division.specs.declared.stretch.Stretch.{Stretch}
use Rattle.line_division.specs.declared.cost.Cost.{Cost}
use Rattle.line_division.specs.declared.table.Choice.{Choice}
use Rattle.line_division.specs.declared.table.Choices.{Choices}
use Rattle.line_division.specs.Cost.{nothing, together, CostsNoMore}
use Rattle.line_division.specs.Lines.{hyphens_to, line_over, line_cost}
use Rattle.line_division.specs.Division.{MayStand, Divides, cost_of}
use Rattle.line_division.specs.Private.Plain.{IsPlain}
use Rattle.line_division.specs.Private.Table.{HasRun, row_at, kept_at, choice_at}

-- How many runs of hyphens are distinguished. A run that is longer costs the same as the longest of them.
abbrev pub runs : Option ℕ → ℕ
runs None = 1
runs (Some most) = most + 1

-- The state for that many hyphens in a row.
abbrev pub run_of : Option ℕ → ℕ → ℕ
run_of ladder hyphens = if nat_lt hyphens (runs ladder) then hyphens else runs ladder - 1

-- A choice is no dearer than any division after a start, after a run.
abbrev pub IsLeast : List Stretch → ℕ → ℕ → Option ℕ → ℕ → ℕ → Cost → Type 0
IsLeast stretches columns last_columns ladder run start least = (row : List ℕ) → Divides stretches columns start row
    → CostsNoMore least (cost_of stretches columns last_columns ladder run start row)

-- A cost is so small that the sums over lines do not overflow.
abbrev pub IsSmall : Cost → ℕ → Type 0
IsSmall c lines = (c.excess ≤ lines * 2 ^ 34) × (c.over ≤ lines) × (c.spent ≤ lines * 2 ^ 33)

-- The line of a choice is allowed, and the best lines follow it.
pub record IsMade (stretches : List Stretch) (columns last_columns : ℕ) (ladder : Option ℕ) (choices : Choices)
    (run start : ℕ) (choice : Choice) : Type 0 where
  pub after : start < choice.end
  pub within : choice.end ≤ length stretches
  pub stands : MayStand stretches columns start choice.end
  pub sum : choice.cost ≡ together
      (line_cost stretches columns last_columns ladder (hyphens_to stretches run choice.end) start choice.end)
      (choice_at choices (run_of ladder (hyphens_to stretches run choice.end)) choice.end).cost

-- The best line is known for a run at a place. It is after a place, or there, and the run is one of the first of that
-- number.
abbrev pub IsKnown : Option ℕ → ℕ → ℕ → ℕ → ℕ → Type 0
IsKnown ladder low known run place = (run < runs ladder) × ((low < place) ⊎ ((low ≡ place) × (run < known)))

-- The choices for all places after one, and for the first that many runs there, are the best ones.
pub record AreBest (stretches : List Stretch) (columns last_columns : ℕ) (ladder : Option ℕ) (choices : Choices)
    (low known : ℕ) : Type 0 where
  pub many : length choices.firsts.items ≡ length stretches + 1
  pub faulty : (length choices.faults.items ≡ length stretches + 1) ⊎ IsPlain stretches columns ladder
  pub begun : 1 < runs ladder → length choices.begins.items ≡ length stretches + 1
  pub kept : (r e : ℕ) → IsKnown ladder low known r e → e ≤ length stretches → HasRun (row_at choices e) r
  pub short : (r e : ℕ) → IsKnown ladder low known r e → e ≤ length stretches
      → (kept_at choices r e).last_run < runs ladder
  pub least : (r e : ℕ) → IsKnown ladder low known r e → e ≤ length stretches
      → IsLeast stretches columns last_columns ladder r e (choice_at choices r e).cost
  pub small : (r e : ℕ) → IsKnown ladder low known r e → e ≤ length stretches
      → IsSmall (choice_at choices r e).cost (length stretches - e)
  pub made : (r e : ℕ) → IsKnown ladder low known r e → e < length stretches
      → IsMade stretches columns last_columns ladder choices r e (choice_at choices r e)
  pub last : (r : ℕ) → r < runs ladder → (choice_at choices r (length stretches)).cost ≡ nothing

-- The lines over a ladder at an end where that many hyphens are in a row, as a cost.
abbrev pub over_cost : Option ℕ → ℕ → Cost
over_cost ladder hyphens = record { excess = 0; over = line_over ladder hyphens; spent = 0 }

-- The cost of an end at which that many hyphens are in a row, with the lines to a row of ends after it. It is all but
-- what its own line spends and has too many.
abbrev pub end_cost : List Stretch → ℕ → ℕ → Option ℕ → ℕ → ℕ → List ℕ → Cost
end_cost stretches columns last_columns ladder hyphens end row =
    together (over_cost ladder hyphens) (cost_of stretches columns last_columns ladder hyphens end row)

-- A line after a run that ends at a place from one to another, with all lines after it, costs no less than a floor.
abbrev pub IsFloor : List Stretch → ℕ → ℕ → Option ℕ → ℕ → ℕ → ℕ → Cost → Type 0
IsFloor stretches columns last_columns ladder run first last floor =
    (e : ℕ) (row : List ℕ) → first ≤ e → e ≤ last → Divides stretches columns e row
    → CostsNoMore floor (end_cost stretches columns last_columns ladder (hyphens_to stretches run e) e row)

-- The floor after a run that is not empty.
abbrev pub floor_after : List Cost → ℕ → Cost
floor_after floors run = slice_index_or floors (run - 1) nothing

-- There is a floor for each run that is not empty.
abbrev pub EachIsFloor : List Stretch → ℕ → ℕ → Option ℕ → ℕ → ℕ → List Cost → Type 0
EachIsFloor stretches columns last_columns ladder first last floors = (r : ℕ) → 1 ≤ r → r < runs ladder
    → IsFloor stretches columns last_columns ladder r first last (floor_after floors r)

-- A square of columns can be added to what any floor spends.
abbrev pub EachIsLow : List Cost → Type 0
EachIsLow floors = (r : ℕ) → 1 ≤ r → (floor_after floors r).spent ≤ 2 ^ 63
