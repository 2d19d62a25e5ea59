use Rattle.std.proofs.Common.{arith}
use Rattle.std.proofs.lemmas.Grind.{common_steps}
use Rattle.language_search.proofs.tags.languages_of.Goals as goal

pub loop-place-init : goal.loop-place-init
loop-place-init c = grind (arith, common_steps)

pub loop-place-preserved : goal.loop-place-preserved
loop-place-preserved c = grind (arith, common_steps)

pub loop-place-smaller : goal.loop-place-smaller
loop-place-smaller c = grind (arith, common_steps)

pub overflow_step-place : goal.overflow_step-place
overflow_step-place c = grind (arith, common_steps)

pub push_front_before-requires : goal.push_front_before-requires
push_front_before-requires c = grind (arith, common_steps)

pub returns : goal.returns
returns c = grind (arith, common_steps)
