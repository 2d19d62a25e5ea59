use Rattle.std.proofs.Common.{arith}
use Rattle.std.proofs.lemmas.Grind.{common_steps}
use Rattle.tex_files.proofs.tex.groups.Goals as goal

pub loop-piece-init : goal.loop-piece-init
loop-piece-init c = grind (arith, common_steps)

pub offset_bounds-pieces-piece-index : goal.offset_bounds-pieces-piece-index
offset_bounds-pieces-piece-index c = grind (arith, common_steps)

pub returns-in_err-take : goal.returns-in_err-take
returns-in_err-take c = grind (arith, common_steps)

pub loop-piece-preserved : goal.loop-piece-preserved
loop-piece-preserved c = grind (arith, common_steps)

pub returns : goal.returns
returns c = grind (arith, common_steps)
