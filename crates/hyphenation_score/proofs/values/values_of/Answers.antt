use Rattle.hyphenation_score.proofs.Counting.{counts_ended}
use Rattle.hyphenation_score.proofs.values.values_of.Goals as goal

pub returns-then-word-le62-clause-counts : goal.returns-then-word-le62-clause-counts
returns-then-word-le62-clause-counts c = λ longest none. counts_ended _ _ _ _ _ _ (c.put_values.ensures.counts longest none)

pub returns-clause-counts : goal.returns-clause-counts
returns-clause-counts c = λ longest none. counts_ended _ _ _ _ _ _ (c.put_values-2.ensures.counts longest none)
