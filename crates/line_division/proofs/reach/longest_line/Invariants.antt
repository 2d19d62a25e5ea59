use Rattle.std.proofs.Common.{ℕ, ◌≡◌, ◌+◌, ◌-◌, ◌^◌, ◌<◌, ◌≤◌, length}
use Rattle.std.specs.List.{sum_by, slice_range}
use Rattle.line_division.specs.Lines.{stretch_at, joined_width, line_width}
use Rattle.line_division.proofs.reach.longest_line.Given as goal

-- No line that ends later than after the last stretch so far fits.
abbrev pub invariant-loop-wide : goal.invariant-loop-wide
invariant-loop-wide l = record {
  from : l.start ≤ l.last;
  upto : l.last ≤ l.fn.reach.last;
  joined : l.joined ≡ (stretch_at l.fn.problem.stretches.now l.start).opening + sum_by joined_width (slice_range l.fn.problem.stretches.now l.start l.last);
  wide : l.wide ≡ l.joined + (stretch_at l.fn.problem.stretches.now l.last).width + (stretch_at l.fn.problem.stretches.now l.last).closing;
  small_sum : l.joined < 2 ^ 33;
  small_wide : l.wide < 2 ^ 34;
  beyond : (later : ℕ) → l.last + 1 < later → later ≤ length l.fn.problem.stretches.now → l.fn.problem.columns < line_width l.fn.problem.stretches.now l.start later;
}

abbrev pub decreases-loop-wide : goal.decreases-loop-wide
decreases-loop-wide l = l.last - l.start
