use Rattle.std.proofs.Common.{◌-◌, ◌≡◌, ◌^◌, ◌<◌, ◌≤◌, length}
use Rattle.std.specs.List.{sum_by, slice_range}
use Rattle.line_division.specs.Lines.{joined_width}
use Rattle.line_division.proofs.Reaching.{IsBeyond}
use Rattle.line_division.proofs.reach.reach_from.Given as goal

-- No line that goes past the last stretch so far fits.
abbrev pub invariant-loop-joined : goal.invariant-loop-joined
invariant-loop-joined l = record {
  from : l.start ≤ l.last;
  within : l.last < length l.fn.problem.stretches.now;
  earlier : l.last ≤ l.fn.later.last;
  joined : l.joined ≡ sum_by joined_width (slice_range l.fn.problem.stretches.now l.start l.last);
  small_sum : l.joined < 2 ^ 34;
  beyond : IsBeyond l.fn.problem.stretches.now l.fn.problem.columns l.start l.last;
}

abbrev pub decreases-loop-joined : goal.decreases-loop-joined
decreases-loop-joined l = l.last - l.start
