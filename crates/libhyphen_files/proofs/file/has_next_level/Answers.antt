use Rattle.libhyphen_files.proofs.FilesLemmas.{any_is}
use Rattle.libhyphen_files.proofs.file.has_next_level.Goals as goal

pub returns : goal.returns
returns c = any_is c.args.lines.now c.next_level_at.result c.next_level_at.ensures.number
