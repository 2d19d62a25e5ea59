use Rattle.std.proofs.Common.{take}
use Rattle.command_line.specs.Endings.{Tells}
use Rattle.hyphenation_breaks.specs.Borrowed.{texts_now}
use Rattle.html_command.specs.Notes.{notes_text}
use Rattle.html_command.proofs.notes.write_notes.Given as goal

-- The notes so far are written.
abbrev pub invariant-loop-note : goal.invariant-loop-note
invariant-loop-note g l = Tells g.E.Write.contents l.fn.errors l.errors (notes_text l.program (texts_now l.names) (take l.note-index l.notes))
