-- All ways to divide a paragraph into lines, and their costs.
use Rattle.std.specs.Prelude.{◌≡◌, ℕ, ◌+◌, ◌<◌, ◌≤◌, ◌⊎◌, Option, Some, None, List, [], ◌∷◌, ⊤, length}
use Rattle.line_division.specs.declared.stretch.Stretch.{Stretch}
use Rattle.line_division.specs.declared.cost.Cost.{Cost}
use Rattle.line_division.specs.Cost.{nothing, together, CostsNoMore}
use Rattle.line_division.specs.Lines.{line_width, hyphens_to, line_cost}

-- A line may be in a division where it fits, or where it holds one stretch, which can't be divided.
abbrev pub MayStand : List Stretch → ℕ → ℕ → ℕ → Type 0
MayStand stretches columns start end = (line_width stretches start end ≤ columns) ⊎ (end ≡ start + 1)

-- A row of ends divides the stretches after a start. Each end is after the one before, each line is allowed, and the
-- last end is that of all.
abbrev pub Divides : List Stretch → ℕ → ℕ → List ℕ → Type 0
Divides stretches columns start [] = start ≡ length stretches
Divides stretches columns start (end ∷ ends) =
    (start < end) × MayStand stretches columns start end × Divides stretches columns end ends

-- Each line of a row of ends fits.
abbrev pub EachFits : List Stretch → ℕ → ℕ → List ℕ → Type 0
EachFits stretches columns start [] = ⊤
EachFits stretches columns start (end ∷ ends) =
    (line_width stretches start end ≤ columns) × EachFits stretches columns end ends

-- The cost of the lines from a start to a row of ends. This number of hyphens is in a row before them.
abbrev pub cost_of : List Stretch → ℕ → ℕ → Option ℕ → ℕ → ℕ → List ℕ → Cost
cost_of stretches columns last_columns ladder before start [] = nothing
cost_of stretches columns last_columns ladder before start (end ∷ ends) = together
    (line_cost stretches columns last_columns ladder (hyphens_to stretches before end) start end)
    (cost_of stretches columns last_columns ladder (hyphens_to stretches before end) end ends)

-- No division costs less than a row of ends.
abbrev pub CostsLeast : List Stretch → ℕ → ℕ → Option ℕ → List ℕ → Type 0
CostsLeast stretches columns last_columns ladder row = (other : List ℕ) → Divides stretches columns 0 other
    → CostsNoMore (cost_of stretches columns last_columns ladder 0 0 row)
    (cost_of stretches columns last_columns ladder 0 0 other)

-- Each line of a row of ends fits, if there is a division whose lines do.
abbrev pub FitsIfAny : List Stretch → ℕ → List ℕ → Type 0
FitsIfAny stretches columns row = (other : List ℕ) → Divides stretches columns 0 other
    → EachFits stretches columns 0 other → EachFits stretches columns 0 row

-- This number of hyphens in a row is no more than a ladder may have.
abbrev pub IsWithin : Option ℕ → ℕ → Type 0
IsWithin None hyphens = ⊤
IsWithin (Some most) hyphens = hyphens ≤ most

-- No more lines in a row end in a hyphen than a ladder may have. This number of them do before the lines to this row of
-- ends.
abbrev pub KeepsLadder : List Stretch → Option ℕ → ℕ → List ℕ → Type 0
KeepsLadder stretches ladder before [] = ⊤
KeepsLadder stretches ladder before (end ∷ ends) =
    IsWithin ladder (hyphens_to stretches before end)
    × KeepsLadder stretches ladder (hyphens_to stretches before end) ends

-- A row of ends keeps to a ladder, if there is a division that does and whose lines fit.
abbrev pub KeepsLadderIfAny : List Stretch → ℕ → Option ℕ → List ℕ → Type 0
KeepsLadderIfAny stretches columns ladder row = (other : List ℕ) → Divides stretches columns 0 other
    → EachFits stretches columns 0 other → KeepsLadder stretches ladder 0 other → KeepsLadder stretches ladder 0 row

-- No division whose lines fit has fewer lines than a row of ends.
abbrev pub IsFewest : List Stretch → ℕ → List ℕ → Type 0
IsFewest stretches columns row = (other : List ℕ) → Divides stretches columns 0 other
    → EachFits stretches columns 0 other → length row ≤ length other
