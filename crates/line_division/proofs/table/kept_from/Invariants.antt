use Rattle.std.proofs.Common.{◌≡◌, ◌-◌, length, drop}
use Rattle.line_division.specs.Private.Table.{kept_for, HasRun}
use Rattle.line_division.proofs.table.kept_from.Given as goal

-- The line is among those from here on.
abbrev pub invariant-loop-at : goal.invariant-loop-at
invariant-loop-at l = record {
  has : HasRun (drop l.at l.others) l.run;
  same : kept_for (drop l.at l.others) l.run ≡ kept_for (drop l.begin l.others) l.run;
}

abbrev pub decreases-loop-at : goal.decreases-loop-at
decreases-loop-at l = length l.others - l.at
