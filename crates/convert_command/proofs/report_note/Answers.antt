use Rattle.convert_command.proofs.report_note.Goals as goal

pub returns : goal.returns
returns g c = rw c.path_at-path.ensures at c.write.ensures.after
