use Rattle.hyphenation_score.proofs.ValuesInOrder.{values-of-scores}
use Rattle.hyphenation_score.proofs.laws.scores_have_values.Goals as goal

pub returns : goal.returns
returns g c = values-of-scores
