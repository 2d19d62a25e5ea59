-- The best lines of a paragraph that is to be divided.
use Rattle.std.specs.Prelude.{◌≡◌, ℕ, ◌+◌, ◌-◌, ◌<◌, ◌≤◌, Option, List, length}
use Rattle.line_division.specs.declared.cost.Cost.{Cost}
use Rattle.line_division.specs.declared.problem.MeasuredParagraph.{MeasuredParagraph}
use Rattle.line_division.specs.declared.problem.Problem.{Problem}
use Rattle.line_division.specs.declared.table.Choice.{Choice}
use Rattle.line_division.specs.declared.table.Choices.{Choices}
use Rattle.line_division.specs.Lines.{line_cost}
use Rattle.line_division.specs.Division.{CostsLeast, KeepsLadderIfAny}
use Rattle.line_division.specs.Private.Best.{runs, IsLeast, IsSmall, IsMade, AreBest, IsFloor, EachIsFloor, EachIsLow}

-- The cost of the line from a start to an end, where that many hyphens are in a row.
abbrev pub line_cost_of : Problem → ℕ → ℕ → ℕ → Cost
line_cost_of problem hyphens start end =
    line_cost problem.stretches.now problem.columns problem.last_columns problem.ladder hyphens start end

-- The line of a choice is allowed after a run, at a start, and the best lines follow it.
abbrev pub IsMadeOf : Problem → Choices → ℕ → ℕ → Choice → Type 0
IsMadeOf problem choices run start choice =
    IsMade problem.stretches.now problem.columns problem.last_columns problem.ladder choices run start choice

-- The choices for all places of a paragraph after one, and for the first that many runs there, are the best ones.
abbrev pub AreBestOf : Problem → Choices → ℕ → ℕ → Type 0
AreBestOf problem choices low known =
    AreBest problem.stretches.now problem.columns problem.last_columns problem.ladder choices low known

-- The choices for all places of a paragraph from one on are the best ones, after each run.
abbrev pub AreBestFrom : Problem → Choices → ℕ → Type 0
AreBestFrom problem choices low = AreBestOf problem choices low (runs problem.ladder)

-- The choices for all places of a paragraph are the best ones with a ladder.
abbrev pub AreBestWith : MeasuredParagraph → Option ℕ → Choices → Type 0
AreBestWith paragraph ladder choices =
    AreBest paragraph.stretches.now paragraph.columns paragraph.last_columns ladder choices 0 (runs ladder)

-- No division of a paragraph costs less with a ladder than a row of ends.
abbrev pub CostsLeastWith : MeasuredParagraph → Option ℕ → List ℕ → Type 0
CostsLeastWith paragraph ladder row =
    CostsLeast paragraph.stretches.now paragraph.columns paragraph.last_columns ladder row

-- A row of ends keeps to a ladder, if there is a division of the paragraph that does and whose lines fit.
abbrev pub KeepsLadderWith : MeasuredParagraph → Option ℕ → List ℕ → Type 0
KeepsLadderWith paragraph ladder row = KeepsLadderIfAny paragraph.stretches.now paragraph.columns ladder row

-- A choice is the best one after a run, at a start. It is made of a line and the best lines after it, and its cost is
-- small.
pub record IsBestOf (problem : Problem) (choices : Choices) (run start : ℕ) (choice : Choice) : Type 0 where
  pub least : IsLeast problem.stretches.now problem.columns problem.last_columns problem.ladder run start choice.cost
  pub made : IsMadeOf problem choices run start choice
  pub small : IsSmall choice.cost (length problem.stretches.now - start)

-- A line after a run that ends at a place from one to another, with all lines after it, costs no less than a floor.
abbrev pub IsFloorOf : Problem → ℕ → ℕ → ℕ → Cost → Type 0
IsFloorOf problem run first last floor =
    IsFloor problem.stretches.now problem.columns problem.last_columns problem.ladder run first last floor

-- There is a floor for each run that is not empty.
abbrev pub EachIsFloorOf : Problem → ℕ → ℕ → List Cost → Type 0
EachIsFloorOf problem first last floors =
    EachIsFloor problem.stretches.now problem.columns problem.last_columns problem.ladder first last floors

-- A floor of the lines that end a stretch later, and at the last place or after it, gives the next floor: that of the
-- lines that end at a place from a start to the last one. No line ends at the first place of all.
abbrev pub GivesFloorOf : Problem → ℕ → ℕ → ℕ → Cost → Cost → Type 0
GivesFloorOf problem run start last floor next = 0 < start → (upto : ℕ) → last ≤ upto
    → IsFloorOf problem run (start + 1) upto floor → IsFloorOf problem run start last next

-- The same of the floors for the runs that are not empty.
abbrev pub GiveFloorsOf : Problem → ℕ → ℕ → List Cost → List Cost → Type 0
GiveFloorsOf problem start last floors next = 0 < start → (upto : ℕ) → last ≤ upto
    → EachIsFloorOf problem (start + 1) upto floors → EachIsFloorOf problem start last next

-- There is one floor for each run that is not empty, and a square of columns can be added to what it spends.
pub record AreFloorsOf (problem : Problem) (first last : ℕ) (floors : List Cost) : Type 0 where
  pub many : length floors + 1 ≡ runs problem.ladder
  pub each : EachIsFloorOf problem first last floors
  pub low : EachIsLow floors
