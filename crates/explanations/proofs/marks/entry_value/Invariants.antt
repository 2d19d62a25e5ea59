use Rattle.std.proofs.Common.{◌≡◌, drop}
use Rattle.explanations.specs.Marks.{entry_value}
use Rattle.explanations.proofs.marks.entry_value.Given as goal

abbrev pub invariant-loop-entry : goal.invariant-loop-entry
invariant-loop-entry g l = entry_value (drop l.entry-index l.entries) l.place ≡ entry_value l.entries l.place
