use Rattle.std.proofs.Common.{◌≡◌, ◌+◌, ◌-◌, ◌^◌, ◌<◌, ◌≤◌, length}
use Rattle.line_division.specs.Private.Best.{runs, EachIsLow}
use Rattle.line_division.specs.Private.Problem.{AreBestOf, IsFloorOf, EachIsFloorOf}
use Rattle.line_division.specs.Private.Reaches.{IsReach}
use Rattle.line_division.proofs.even.best_lines.Given as goal

-- The lines that begin from here on are the best ones. It is known what they cost at least, and how far those reach that begin
-- before them.
abbrev pub invariant-loop-start : goal.invariant-loop-start
invariant-loop-start l = record {
  best : AreBestOf l.fn.problem l.choices l.start (runs l.fn.problem.ladder);
  reach : 0 < l.start → IsReach l.fn.problem.stretches.now l.fn.problem.columns (l.start - 1) l.reach;
  first : 0 < l.start → IsFloorOf l.fn.problem 0 l.start (l.reach.last + 1) l.first;
  first_low : l.first.spent ≤ 2 ^ 63;
  many : length l.floors.items + 1 ≡ runs l.fn.problem.ladder;
  floors : 0 < l.start → EachIsFloorOf l.fn.problem l.start (l.reach.last + 1) l.floors.items;
  low : EachIsLow l.floors.items;
}
