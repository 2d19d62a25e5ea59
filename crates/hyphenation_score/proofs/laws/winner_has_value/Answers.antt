use Rattle.hyphenation_score.proofs.ValuesInOrder.{value_of-winner}
use Rattle.hyphenation_score.proofs.laws.winner_has_value.Goals as goal

pub returns : goal.returns
returns g c = value_of-winner
