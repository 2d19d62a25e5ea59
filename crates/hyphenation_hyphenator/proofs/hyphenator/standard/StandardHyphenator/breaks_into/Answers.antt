use Rattle.std.proofs.Common.{◌∙◌}
use Rattle.hyphenation_hyphenator.proofs.PlainBreaks.{fitted_alike}
use Rattle.hyphenation_hyphenator.proofs.Standard.{on_ok_then}
use Rattle.hyphenation_hyphenator.proofs.hyphenator.standard.StandardHyphenator.breaks_into.Goals as goal

pub returns-clause-breaks : goal.returns-clause-breaks
returns-clause-breaks c = on_ok_then c.breaks_into.result _ _ (λ is. is ∙ fitted_alike c.args.self.now c.args.word.now c.value_is_borne.ensures c.invariant.ensures c.utf8.word) c.breaks_into.ensures.breaks
