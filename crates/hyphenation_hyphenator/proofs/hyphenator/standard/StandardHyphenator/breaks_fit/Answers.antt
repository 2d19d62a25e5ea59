use Rattle.std.proofs.Common.{subst}
use Rattle.hyphenation_breaks.specs.Break.{plain_break}
use Rattle.hyphenation_segments.specs.Fits.{Fits}
use Rattle.hyphenation_hyphenator.specs.Opportunities.{no_change, Ascending}
use Rattle.hyphenation_hyphenator.proofs.FittedBreaks.{breaks_fit, breaks_ascend}
use Rattle.hyphenation_hyphenator.proofs.PlainBreaks.{fitted_alike}
use Rattle.hyphenation_hyphenator.proofs.hyphenator.standard.StandardHyphenator.breaks_fit.Goals as goal

pub returns-clause-fit : goal.returns-clause-fit
returns-clause-fit c = λ word u.
    let kept = c.invariant.ensures in
    subst (Fits word) (fitted_alike c.args.self.now word c.value_is_borne.ensures kept u) (breaks_fit no_change plain_break c.args.self.now word c.value_is_borne.ensures c.winner_is_first.ensures kept u)

pub returns-clause-ascend : goal.returns-clause-ascend
returns-clause-ascend c = λ word u.
    let kept = c.invariant.ensures in
    subst (Ascending word) (fitted_alike c.args.self.now word c.value_is_borne.ensures kept u) (breaks_ascend no_change plain_break c.args.self.now word c.value_is_borne.ensures c.winner_is_first.ensures kept u)
