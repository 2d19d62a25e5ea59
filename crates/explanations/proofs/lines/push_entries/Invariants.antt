use Rattle.std.proofs.Common.{◌≡◌, ◌++◌, drop, flat_map}
use Rattle.explanations.specs.Lines.{entry_field}
use Rattle.explanations.proofs.lines.push_entries.Given as goal

abbrev pub invariant-loop-entry : goal.invariant-loop-entry
invariant-loop-entry g l = l.text.items ++ flat_map (entry_field g.C.Payload.change_of) (drop l.entry-index l.entries) ≡ l.initial.text.items ++ flat_map (entry_field g.C.Payload.change_of) l.entries
