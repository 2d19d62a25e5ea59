use Rattle.std.proofs.Common.{◌∙◌, sym}
use Rattle.libhyphen_files.proofs.FilesLemmas.{skip, stop}
use Rattle.libhyphen_files.proofs.file.next_level_at.Goals as goal

pub returns-then-is_next_level-clause-number : goal.returns-then-is_next_level-clause-number
returns-then-is_next_level-clause-number c = stop c.args.lines.now c.loop-i.i _ c.loop-i-test.true (sym c.is_next_level.ensures ∙ c.if-is_next_level.true) c.loop-i.invariant

pub loop-i-preserved : goal.loop-i-preserved
loop-i-preserved c = skip c.args.lines.now c.loop-i.i _ c.loop-i-test.true (sym c.is_next_level.ensures ∙ c.if-is_next_level.false) c.loop-i.invariant
