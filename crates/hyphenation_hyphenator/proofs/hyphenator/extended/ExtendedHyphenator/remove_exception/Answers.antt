use Rattle.hyphenation_hyphenator.specs.Opportunities.{own_break}
use Rattle.hyphenation_score.specs.Scoring.{own_change}
use Rattle.hyphenation_hyphenator.proofs.Standard.{lists_removed}
use Rattle.hyphenation_hyphenator.proofs.hyphenator.extended.ExtendedHyphenator.remove_exception.Goals as goal

pub returns-clause-unlists : goal.returns-clause-unlists
returns-clause-unlists c = rw c.remove_exception.ensures.removed (lists_removed own_change own_break c.args.self.now c.args.word.now)
