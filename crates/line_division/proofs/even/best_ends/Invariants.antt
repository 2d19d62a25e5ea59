use Rattle.std.proofs.Common.{◌-◌, ◌<◌, ◌≤◌, length}
use Rattle.line_division.specs.Private.Best.{runs}
use Rattle.line_division.proofs.Least.{GoesOn}
use Rattle.line_division.proofs.even.best_ends.Given as goal

-- The ends so far, followed by any that cost the least from here on, cost the least.
abbrev pub invariant-loop-start : goal.invariant-loop-start
invariant-loop-start l = record {
  within : l.start ≤ length l.fn.paragraph.stretches.now;
  known : l.run < runs l.ladder;
  goes : GoesOn l.fn.paragraph.stretches.now l.fn.paragraph.columns l.fn.paragraph.last_columns l.ladder l.choices l.run l.start l.ends.items;
}

abbrev pub decreases-loop-start : goal.decreases-loop-start
decreases-loop-start l = length l.fn.paragraph.stretches.now - l.start
