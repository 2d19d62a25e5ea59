use Rattle.std.proofs.Common.{◌-◌, ◌<◌, ◌≤◌}
use Rattle.line_division.specs.Private.Best.{runs}
use Rattle.line_division.specs.Private.Problem.{AreBestOf}
use Rattle.line_division.specs.Private.Table.{IsOpen}
use Rattle.line_division.proofs.even.put_longer.Given as goal

-- The best line to begin here is known after each run so far.
abbrev pub invariant-loop-run : goal.invariant-loop-run
invariant-loop-run l = record {
  some : 1 ≤ l.run;
  known : l.run ≤ runs l.fn.begin.problem.ladder;
  best : AreBestOf l.fn.begin.problem l.choices l.fn.begin.start l.run;
  shorter : l.run < runs l.fn.begin.problem.ladder → IsOpen l.choices l.run l.fn.begin.start;
}

abbrev pub decreases-loop-run : goal.decreases-loop-run
decreases-loop-run l = runs l.fn.begin.problem.ladder - l.run
