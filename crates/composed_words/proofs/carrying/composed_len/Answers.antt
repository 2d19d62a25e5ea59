use Rattle.std.proofs.Common.{length, sym, ap, ◌∙◌}
use Rattle.composed_words.specs.Composed.{composed}
use Rattle.composed_words.proofs.Compositions.{composed_from_test}
use Rattle.composed_words.proofs.carrying.composed_len.Goals as goal

pub returns-then-passes : goal.returns-then-passes
returns-then-passes c = sym (ap length (composed_from_test c.args.text.now (c.passes.ensures.composed c.if-passes.true)))

pub returns : goal.returns
unfolding composed
returns c = ap length (c.as_str.ensures.value ∙ c.in_ok-nfc.ensures)
