use Rattle.hyphenation_score.proofs.WinnerPlaces.{only_winner}
use Rattle.hyphenation_score.proofs.laws.first_is_winner.Goals as goal

pub returns : goal.returns
returns g c = only_winner
