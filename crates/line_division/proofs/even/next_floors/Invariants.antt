use Rattle.std.proofs.Common.{◌≡◌, ℕ, ◌+◌, ◌<◌, ◌≤◌, length}
use Rattle.line_division.specs.Private.Best.{runs, floor_after, IsFloor, EachIsFloor, EachIsLow}
use Rattle.line_division.proofs.even.next_floors.Given as goal

-- The floors of the runs so far are new, and the others are as they were.
abbrev pub invariant-loop-run : goal.invariant-loop-run
invariant-loop-run l = record {
  some : 1 ≤ l.run;
  many : length l.floors.items + 1 ≡ runs l.fn.problem.ladder;
  each : 0 < l.fn.span.start → (upto : ℕ) → l.fn.span.last ≤ upto → EachIsFloor l.fn.problem.stretches.now l.fn.problem.columns l.fn.problem.last_columns l.fn.problem.ladder (l.fn.span.start + 1) upto l.initial.floors.items → (r : ℕ) → 1 ≤ r → r < l.run
      → IsFloor l.fn.problem.stretches.now l.fn.problem.columns l.fn.problem.last_columns l.fn.problem.ladder r l.fn.span.start l.fn.span.last (floor_after l.floors.items r);
  rest : (r : ℕ) → l.run ≤ r → floor_after l.floors.items r ≡ floor_after l.initial.floors.items r;
  low : EachIsLow l.initial.floors.items → EachIsLow l.floors.items;
}
