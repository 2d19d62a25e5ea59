use Rattle.std.proofs.Common.{take, drop, ap, ◌∙◌, arith}
use Rattle.std.proofs.lemmas.List.{take-take}
use Rattle.hyphenation_score.proofs.values.copied_values.Goals as goal

pub returns-then-count-le16 : goal.returns-then-count-le16
returns-then-count-le16 c =
    c.truncate.ensures.items ∙ ap (take c.args.count) c.in_ok-values.ensures.items
    ∙ take-take c.args.count 16 (drop 16 c.args.buffer.now) (omega (arith, c.if-count-le16.true))
