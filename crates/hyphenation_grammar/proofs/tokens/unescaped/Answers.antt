use Rattle.std.proofs.Common.{arith}
use Rattle.std.proofs.lemmas.Grind.{common_steps}
use Rattle.hyphenation_grammar.proofs.tokens.unescaped.Goals as goal

pub returns-in_err-text : goal.returns-in_err-text
returns-in_err-text c = grind (arith, common_steps)

pub loop-byte-init : goal.loop-byte-init
loop-byte-init c = grind (arith, common_steps)

pub returns-in_err-push-in-Some-Some : goal.returns-in_err-push-in-Some-Some
returns-in_err-push-in-Some-Some c = grind (arith, common_steps)
