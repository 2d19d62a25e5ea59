-- The table of the lines that are best to begin at each place, after each run of hyphens.
use Rattle.std.specs.Prelude.{ℕ, ◌<◌, ◌≤◌, ◌⊎◌, nat_lt, if◌then◌else◌, ⊤, List, [], ◌∷◌, length, drop}
use Rattle.std.specs.List.{slice_index_or}
use Rattle.line_division.specs.declared.table.Choice.{Choice}
use Rattle.line_division.specs.declared.table.First.{First}
use Rattle.line_division.specs.declared.table.Faults.{Faults}
use Rattle.line_division.specs.declared.table.Kept.{Kept}
use Rattle.line_division.specs.declared.table.Choices.{Choices}
use Rattle.line_division.specs.Cost.{nothing}

-- A line that costs nothing.
abbrev pub none_kept : Kept
none_kept = record { cost = nothing; end = 0; last_run = 0 }

-- The first of some lines that is for a run or a longer one.
abbrev pub kept_for : List Kept → ℕ → Kept
kept_for [] run = none_kept
kept_for (kept ∷ row) run = if nat_lt kept.last_run run then kept_for row run else kept

-- One of some lines is for a run or a longer one.
abbrev pub HasRun : List Kept → ℕ → Type 0
HasRun [] run = ⊥
HasRun (kept ∷ row) run = (run ≤ kept.last_run) ⊎ HasRun row run

-- Each of some lines is for shorter runs.
abbrev pub AreShorter : List Kept → ℕ → Type 0
AreShorter [] run = ⊤
AreShorter (kept ∷ row) run = (kept.last_run < run) × AreShorter row run

-- A first line that spends nothing.
abbrev pub no_first : First
no_first = record { spent = 0; end = 0; last_run = 0 }

-- No faults.
abbrev pub no_faults : Faults
no_faults = record { excess = 0; over = 0 }

-- The faults of the first line of a place, and of the best ones after it.
abbrev pub faults_at : Choices → ℕ → Faults
faults_at choices place = slice_index_or choices.faults.items place no_faults

-- The first line of a place.
abbrev pub first_with : First → Faults → Kept
first_with first faults = record {
  cost = record { excess = faults.excess; over = faults.over; spent = first.spent };
  end = first.end;
  last_run = first.last_run;
}

-- The line that is kept for a place after no hyphens.
abbrev pub first_at : Choices → ℕ → Kept
first_at choices place = first_with (slice_index_or choices.firsts.items place no_first) (faults_at choices place)

-- Where the lines of a place begin among the others.
abbrev pub begin_at : Choices → ℕ → ℕ
begin_at choices place = slice_index_or choices.begins.items place 0

-- The lines that are kept for a place, and what comes after them in the list of the others.
abbrev pub row_at : Choices → ℕ → List Kept
row_at choices place =
    first_at choices place ∷ drop (begin_at choices place) choices.others.items

-- The line that is kept for a place after a run.
abbrev pub kept_at : Choices → ℕ → ℕ → Kept
kept_at choices run place = kept_for (row_at choices place) run

-- The choice for a place after a run.
abbrev pub choice_at : Choices → ℕ → ℕ → Choice
choice_at choices run place = record { cost = (kept_at choices run place).cost; end = (kept_at choices run place).end }

-- A line is kept for a place after a run.
abbrev pub IsKept : Choices → ℕ → ℕ → Type 0
IsKept choices run place =
    (place < length choices.firsts.items) × HasRun (row_at choices place) run
    × (1 ≤ run → place < length choices.begins.items)

-- The lines of a place are the last ones of the others, and are for shorter runs.
abbrev pub IsOpen : Choices → ℕ → ℕ → Type 0
IsOpen choices run place =
    AreShorter (row_at choices place) run × (begin_at choices place ≤ length choices.others.items)
