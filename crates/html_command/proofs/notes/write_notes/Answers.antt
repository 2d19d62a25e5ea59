use Rattle.std.proofs.Common.{subst}
use Rattle.command_line.specs.Endings.{TellsMore}
use Rattle.hyphenation_breaks.specs.Borrowed.{texts_now}
use Rattle.html_command.proofs.Telling.{told_more}
use Rattle.html_command.specs.Notes.{note_line}
use Rattle.html_command.specs.declared.notes.PageNote.{PageNote}
use Rattle.html_command.proofs.notes.write_notes.Goals as goal

pub loop-note-preserved : goal.loop-note-preserved
loop-note-preserved g c =
    told_more g.E.Write.contents c.args.errors.now c.loop-note.errors c.write_note.new.errors (note_line c.args.program.now (texts_now c.args.names.now)) c.args.notes.now
    c.loop-note.note-index c.note-item.result c.loop-note-test.true c.loop-note.invariant
    (subst (λ (note : PageNote). TellsMore g.E.Write.contents c.loop-note.errors c.write_note.new.errors (note_line c.args.program.now (texts_now c.args.names.now) note))
    c.note-item.is c.write_note.ensures)
