use Rattle.std.proofs.Common.{arith}
use Rattle.std.proofs.lemmas.Grind.{common_steps}
use Rattle.hyphenation_dictionary.proofs.MakerInvariant.{one_more}
use Rattle.hyphenation_dictionary.proofs.maker.map_of.Goals as goal

pub loop-word-preserved : goal.loop-word-preserved
loop-word-preserved g c =
    one_more c.loop-word.words c.insert.new.self (c.in-Some.word, c.in-Some.listed) _ _ _ c.in_ok-insert.ensures.listed c.in-Some.ensures.steps.0 c.loop-word.invariant

pub returns-in_err-words : goal.returns-in_err-words
returns-in_err-words g c = grind (arith, common_steps)

pub loop-word-init : goal.loop-word-init
loop-word-init g c = grind (arith, common_steps)

pub returns-in_err-insert : goal.returns-in_err-insert
returns-in_err-insert g c = grind (arith, common_steps)

pub returns : goal.returns
returns g c = grind (arith, common_steps)
