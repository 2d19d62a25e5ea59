use Rattle.std.proofs.Common.{◌≤◌, drop}
use Rattle.line_division.proofs.Ladders.{GoesDown}
use Rattle.line_division.proofs.ladder.keeps_ladder.Given as goal

-- The ends from here on have to keep to the ladder.
abbrev pub invariant-loop-end : goal.invariant-loop-end
invariant-loop-end l = record {
  few : l.hyphens ≤ l.most;
  goes : GoesDown l.stretches l.most l.hyphens (drop l.end-index l.ends) l.ends;
}
