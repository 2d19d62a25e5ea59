use Rattle.std.proofs.Common.{◌≡◌, ◌++◌, take}
use Rattle.html_command.specs.Notes.{notes_at}
use Rattle.html_command.proofs.notes.push_notes.Given as goal

-- The notes so far are there.
abbrev pub invariant-loop-note : goal.invariant-loop-note
invariant-loop-note l = l.all.items ≡ l.fn.all.items ++ notes_at l.page (take l.note-index l.notes)
