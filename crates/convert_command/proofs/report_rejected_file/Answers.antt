use Rattle.convert_command.proofs.report_rejected_file.Goals as goal

pub returns-clause-told : goal.returns-clause-told
returns-clause-told g c = rw c.file_at-path.ensures at c.write.ensures.told
