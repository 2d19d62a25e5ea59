use Rattle.std.proofs.Common.{◌≡◌, ℕ, ◌+◌, ◌^◌, ◌≤◌}
use Rattle.line_division.specs.Private.Best.{IsFloor}
use Rattle.line_division.proofs.even.floor_of.Given as goal

-- No end so far costs less.
abbrev pub invariant-loop-place : goal.invariant-loop-place
invariant-loop-place l = record {
  floor : (k : ℕ) → k + 1 ≡ l.place → IsFloor l.fn.problem.stretches.now l.fn.problem.columns l.fn.problem.last_columns l.fn.problem.ladder l.fn.run l.fn.start k l.floor;
  low : l.floor.spent ≤ 2 ^ 63;
}
