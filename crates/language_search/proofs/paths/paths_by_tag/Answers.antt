use Rattle.std.proofs.Common.{arith}
use Rattle.std.proofs.lemmas.Grind.{common_steps}
use Rattle.language_search.proofs.paths.paths_by_tag.Goals as goal

pub bounds-language-items-language-index : goal.bounds-language-items-language-index
bounds-language-items-language-index c = grind (arith, common_steps)

pub loop-language-init : goal.loop-language-init
loop-language-init c = grind (arith, common_steps)

pub loop-language-preserved : goal.loop-language-preserved
loop-language-preserved c = grind (arith, common_steps)

pub loop-language-smaller : goal.loop-language-smaller
loop-language-smaller c = grind (arith, common_steps)

pub returns : goal.returns
returns c = grind (arith, common_steps)
