use Rattle.std.proofs.Common.{arith}
use Rattle.std.proofs.lemmas.Grind.{common_steps}
use Rattle.tex_files.proofs.tex.plain_words.Goals as goal

pub loop-piece-init : goal.loop-piece-init
loop-piece-init c = grind (arith, common_steps)

pub offset_bounds-pieces-piece-index : goal.offset_bounds-pieces-piece-index
offset_bounds-pieces-piece-index c = grind (arith, common_steps)

pub bounds-pieces-piece-index : goal.bounds-pieces-piece-index
bounds-pieces-piece-index c = grind (arith, common_steps)

pub returns-in_err-from_slice : goal.returns-in_err-from_slice
returns-in_err-from_slice c = grind (arith, common_steps)

pub returns-in_err-push : goal.returns-in_err-push
returns-in_err-push c = grind (arith, common_steps)

pub loop-piece-preserved : goal.loop-piece-preserved
loop-piece-preserved c = grind (arith, common_steps)

pub returns : goal.returns
returns c = grind (arith, common_steps)
