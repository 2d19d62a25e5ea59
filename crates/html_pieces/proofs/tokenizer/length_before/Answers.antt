use Rattle.std.proofs.Common.{sym, ap, ◌∙◌, not, get_or, nat_eq}
use Rattle.html_pieces.proofs.QuietSteps.{one_more}
use Rattle.html_pieces.proofs.tokenizer.length_before.Goals as goal

pub loop-i-preserved : goal.loop-i-preserved
loop-i-preserved c =
    one_more (λ k. not (nat_eq (get_or c.args.bytes.now k 0) c.args.stop)) 0 c.loop-i.i c.loop-i.invariant (ap not (sym c.is_byte.ensures ∙ c.if-is_byte.false))
