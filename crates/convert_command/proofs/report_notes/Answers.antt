use Rattle.hyphenation_breaks.specs.Borrowed.{texts_now}
use Rattle.convert_command.proofs.Telling.{told_more}
use Rattle.convert_command.specs.Messages.{note_line}
use Rattle.convert_command.proofs.report_notes.Goals as goal

pub loop-note-preserved : goal.loop-note-preserved
loop-note-preserved g c =
    told_more g.E.Write.contents c.args.errors.now c.loop-note.errors c.report_note.new.errors (note_line (texts_now c.args.paths.now)) c.args.notes.now
    c.loop-note.note-index _ c.loop-note-test.true c.loop-note.invariant c.report_note.ensures
