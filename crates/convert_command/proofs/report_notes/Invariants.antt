use Rattle.std.proofs.Common.{take}
use Rattle.command_line.specs.Endings.{Tells}
use Rattle.hyphenation_breaks.specs.Borrowed.{texts_now}
use Rattle.convert_command.specs.Messages.{notes_text}
use Rattle.convert_command.proofs.report_notes.Given as goal

-- The notes so far are written.
abbrev pub invariant-loop-note : goal.invariant-loop-note
invariant-loop-note g l = Tells g.E.Write.contents l.fn.errors l.errors (notes_text (texts_now l.paths) (take l.note-index l.notes))
