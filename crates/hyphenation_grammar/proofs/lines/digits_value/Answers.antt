use Rattle.hyphenation_grammar.proofs.Numbers.{stops}
use Rattle.hyphenation_grammar.proofs.lines.digits_value.Goals as goal

pub returns-in-None : goal.returns-in-None
returns-in-None c = stops c.loop-byte.value c.loop-byte.byte-index c.args.text.now c.loop-byte-test.true c.loop-byte.invariant.0 c.in-None.ensures
