use Rattle.std.proofs.Common.{arith}
use Rattle.std.proofs.lemmas.Grind.{common_steps}
use Rattle.hyphenation_writer.proofs.PatternElements.{key_step}
use Rattle.hyphenation_writer.proofs.writer.push_key.Goals as goal

pub loop-at-preserved : goal.loop-at-preserved
loop-at-preserved g c =
    let byte = rw c.pattern_escapes-escapes.ensures at c.in_ok-push_byte.ensures in
    key_step c.args.version g.C.Payload.change_of c.loop-at.at c.args.key.now c.loop-at.rest.now c.in_ok-rest.rest.now _ _ _ _ c.loop-at-test.true c.in_ok-rest.ensures.value c.in_ok-rest.ensures.later byte c.loop-at.invariant

pub returns-in-Some : goal.returns-in-Some
returns-in-Some g c = grind (arith, common_steps)

pub returns-in-None : goal.returns-in-None
returns-in-None g c = grind (arith, common_steps)
