use Rattle.hyphenation_breaks.specs.Break.{plain_break}
use Rattle.hyphenation_hyphenator.specs.Opportunities.{no_change}
use Rattle.hyphenation_hyphenator.proofs.Standard.{lists_removed}
use Rattle.hyphenation_hyphenator.proofs.hyphenator.standard.StandardHyphenator.remove_exception.Goals as goal

pub returns-clause-unlists : goal.returns-clause-unlists
returns-clause-unlists c = rw c.remove_exception.ensures.removed (lists_removed no_change plain_break c.args.self.now c.args.word.now)
