use Rattle.std.proofs.Common.{ℕ, ◌<◌, ◌≤◌}
use Rattle.line_division.specs.Lines.{stretch_at}
use Rattle.line_division.proofs.problem.widest_of.Given as goal

-- No stretch so far has more columns.
abbrev pub invariant-loop-stretch : goal.invariant-loop-stretch
invariant-loop-stretch l = record {
  opening : (k : ℕ) → k < l.stretch-index → (stretch_at l.stretches k).opening ≤ l.most.opening;
  width : (k : ℕ) → k < l.stretch-index → (stretch_at l.stretches k).width ≤ l.most.width;
  closing : (k : ℕ) → k < l.stretch-index → (stretch_at l.stretches k).closing ≤ l.most.closing;
}
