use Rattle.std.proofs.Common.{◌≡◌, ◌++◌, drop, flat_map}
use Rattle.explanations.specs.Notes.{entry_note}
use Rattle.explanations.proofs.notes.entries_note.Given as goal

abbrev pub invariant-loop-entry : goal.invariant-loop-entry
invariant-loop-entry g l = l.note.items ++ flat_map (entry_note g.C.Payload.change_of) (drop l.entry-index l.entries) ≡ flat_map (entry_note g.C.Payload.change_of) l.entries
