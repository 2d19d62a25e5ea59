use Rattle.libhyphen_files.specs.Private.Growing.{level_in}
use Rattle.libhyphen_files.proofs.FilesLemmas.{default_made}
use Rattle.libhyphen_files.proofs.file.default_first_level.Goals as goal

pub returns-clause-level : goal.returns-clause-level
returns-clause-level c =
    default_made c.args.utf8 (level_in c.args.next_level.now) _ _ _ c.in_ok-first_level.ensures.level c.default_minima-first_level.ensures c.in_ok-first_level-2.ensures
