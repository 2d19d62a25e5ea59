use Rattle.hyphenation_hyphenator.specs.Opportunities.{own_break}
use Rattle.hyphenation_score.specs.Scoring.{own_change}
use Rattle.hyphenation_hyphenator.proofs.FittedBreaks.{breaks_fit, breaks_ascend}
use Rattle.hyphenation_hyphenator.proofs.hyphenator.extended.ExtendedHyphenator.breaks_fit.Goals as goal

pub returns-clause-fit : goal.returns-clause-fit
returns-clause-fit c = λ word u. breaks_fit own_change own_break c.args.self.now word c.value_is_borne.ensures c.winner_is_first.ensures c.invariant.ensures u

pub returns-clause-ascend : goal.returns-clause-ascend
returns-clause-ascend c = λ word u. breaks_ascend own_change own_break c.args.self.now word c.value_is_borne.ensures c.winner_is_first.ensures c.invariant.ensures u
