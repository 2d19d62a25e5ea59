use Rattle.std.proofs.Common.{◌≡◌, ◌+◌, ◌-◌, ◌^◌, ◌<◌, ◌≤◌, length}
use Rattle.std.specs.List.{sum_by, slice_range}
use Rattle.line_division.specs.Lines.{stretch_at, joined_width}
use Rattle.line_division.specs.Private.Best.{IsSmall}
use Rattle.line_division.specs.Private.Problem.{IsMadeOf}
use Rattle.line_division.proofs.Reaching.{IsLeastAfter}
use Rattle.line_division.proofs.even.best_line.Given as goal

-- The best line of those that end after the stretches so far.
abbrev pub invariant-loop-last : goal.invariant-loop-last
invariant-loop-last l = record {
  from : l.fn.begin.start ≤ l.last;
  within : l.last < length l.fn.begin.problem.stretches.now;
  upto : l.last ≤ l.fn.reach.last;
  joined : l.joined ≡ (stretch_at l.fn.begin.problem.stretches.now l.fn.begin.start).opening + sum_by joined_width (slice_range l.fn.begin.problem.stretches.now l.fn.begin.start l.last);
  small_sum : l.joined < 2 ^ 33;
  after : IsLeastAfter l.fn.begin.problem.stretches.now l.fn.begin.problem.columns l.fn.begin.problem.last_columns l.fn.begin.problem.ladder l.fn.begin.run l.fn.begin.start l.last l.best.cost;
  made : IsMadeOf l.fn.begin.problem l.choices l.fn.begin.run l.fn.begin.start l.best;
  small : IsSmall l.best.cost (length l.fn.begin.problem.stretches.now - l.fn.begin.start);
}

abbrev pub decreases-loop-last : goal.decreases-loop-last
decreases-loop-last l = l.last - l.fn.begin.start
