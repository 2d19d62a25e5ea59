use Rattle.html_command.proofs.notes.write_note.Goals as goal

pub returns : goal.returns
returns g c = rw c.name_at-name.ensures at c.write_line.ensures
