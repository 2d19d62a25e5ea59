use Rattle.std.proofs.Common.{arith}
use Rattle.std.proofs.lemmas.Grind.{common_steps}
use Rattle.html_pieces.proofs.languages.languages_of_pieces.Goals as goal

pub bounds-pieces-piece-index : goal.bounds-pieces-piece-index
bounds-pieces-piece-index c = grind (arith, common_steps)

pub loop-piece-init : goal.loop-piece-init
loop-piece-init c = grind (arith, common_steps)

pub loop-piece-preserved : goal.loop-piece-preserved
loop-piece-preserved c = grind (arith, common_steps)

pub loop-piece-smaller : goal.loop-piece-smaller
loop-piece-smaller c = grind (arith, common_steps)

pub returns : goal.returns
returns c = grind (arith, common_steps)
