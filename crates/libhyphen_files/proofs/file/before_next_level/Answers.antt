use Rattle.libhyphen_files.proofs.FilesLemmas.{before_is}
use Rattle.libhyphen_files.proofs.file.before_next_level.Goals as goal

pub returns : goal.returns
returns c = before_is c.args.lines.now c.next_level_at.result c.next_level_at.ensures.number
