use Rattle.std.proofs.Common.{◌≡◌, drop}
use Rattle.explanations.specs.Columns.{with_room_for_entries}
use Rattle.explanations.proofs.layout.make_room_for_entries.Given as goal

abbrev pub invariant-loop-entry : goal.invariant-loop-entry
invariant-loop-entry g l = with_room_for_entries l.start l.values.items (drop l.entry-index l.entries) ≡ with_room_for_entries l.start l.initial.values.items l.entries
