use Rattle.libhyphen_files.specs.Private.Growing.{level_in}
use Rattle.libhyphen_files.proofs.FilesLemmas.{level_more, level_done}
use Rattle.libhyphen_files.proofs.file.level_of.Goals as goal

pub loop-line-preserved : goal.loop-line-preserved
loop-line-preserved c = record {
  level = level_more c.args.utf8 c.args.lines.now c.loop-line.line-index _ _ _ c.loop-line-test.true c.loop-line.invariant.level c.in_ok-add_line.ensures.added;
  growing = c.in_ok-add_line.ensures.growing;
}

pub returns-clause-level : goal.returns-clause-level
returns-clause-level c = level_done c.args.utf8 c.args.lines.now c.loop-line.line-index (level_in c.loop-line.level) c.loop-line-test.false c.loop-line.invariant.level
