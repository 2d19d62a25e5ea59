use Rattle.std.proofs.Common.{arith}
use Rattle.std.proofs.lemmas.Grind.{common_steps}
use Rattle.tex_files.proofs.tex.pieces_of.Goals as goal

pub loop-b-init : goal.loop-b-init
loop-b-init c = grind (arith, common_steps)

pub loop-b-preserved : goal.loop-b-preserved
loop-b-preserved c = grind (arith, common_steps)

pub returns : goal.returns
returns c = grind (arith, common_steps)
