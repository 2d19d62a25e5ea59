use Rattle.libhyphen_files.proofs.FilesLemmas.{after_is}
use Rattle.libhyphen_files.proofs.file.after_next_level.Goals as goal

pub returns-then-end-lines : goal.returns-then-end-lines
returns-then-end-lines c = after_is c.args.lines.now c.next_level_at-end.result c.next_level_at-end.ensures.number
