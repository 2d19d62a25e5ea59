use Rattle.std.proofs.Common.{◌∙◌, sym, get_or}
use Rattle.html_pieces.specs.Bytes as specs
use Rattle.html_pieces.proofs.QuietSteps.{one_more}
use Rattle.html_pieces.proofs.tokenizer.alphanumeric_length.Goals as goal

pub loop-i-preserved : goal.loop-i-preserved
loop-i-preserved c =
    one_more (λ k. specs.is_alphanumeric (get_or c.args.bytes.now k 0)) 0 c.loop-i.i c.loop-i.invariant (sym c.is_alphanumeric.ensures ∙ c.if-not-is_alphanumeric.false)
