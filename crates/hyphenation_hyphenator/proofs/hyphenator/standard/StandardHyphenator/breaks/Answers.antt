use Rattle.std.proofs.Common.{◌∙◌}
use Rattle.std.proofs.lemmas.Result.{IfOk-weaker}
use Rattle.hyphenation_hyphenator.proofs.PlainBreaks.{fitted_alike}
use Rattle.hyphenation_hyphenator.proofs.hyphenator.standard.StandardHyphenator.breaks.Goals as goal

pub returns-clause-breaks : goal.returns-clause-breaks
returns-clause-breaks c = IfOk-weaker c.breaks.result _ _ (λ v is. is ∙ fitted_alike c.args.self.now c.args.word.now c.value_is_borne.ensures c.invariant.ensures c.utf8.word) c.breaks.ensures.breaks
