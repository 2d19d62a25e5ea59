use Rattle.std.proofs.Common.{arith, length-drop}
use Rattle.linefill.proofs.TextBreaks.{not_plain}
use Rattle.linefill.proofs.filling.next_plain_cut.Goals as goal

pub returns-then-byte-eq32-clause-first : goal.returns-then-byte-eq32-clause-first
returns-then-byte-eq32-clause-first c = λ p l u.
    not_plain c.args.text.now c.args.from c.loop-index.index c.loop-index.invariant p l u (omega (arith, length-drop c.args.from c.args.text.now, c.as_bytes.ensures.len, c.loop-index-test.true))

pub returns-clause-first : goal.returns-clause-first
returns-clause-first c = λ p l u.
    not_plain c.args.text.now c.args.from c.loop-index.index c.loop-index.invariant p l (omega (arith, length-drop c.args.from c.args.text.now, c.as_bytes.ensures.len, c.loop-index-test.false)) u
