use Rattle.hyphenation_score.proofs.OnePass.{values_same}
use Rattle.hyphenation_score.proofs.ValuesInOrder.{winners_same}
use Rattle.hyphenation_score.proofs.laws.same_keys_give_the_same.Goals as goal

pub returns-clause-values : goal.returns-clause-values
returns-clause-values g c = values_same

pub returns-clause-winners : goal.returns-clause-winners
returns-clause-winners g c = winners_same
