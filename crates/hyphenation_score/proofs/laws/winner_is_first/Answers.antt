use Rattle.hyphenation_score.proofs.WinnerPlaces.{winner_wins}
use Rattle.hyphenation_score.proofs.laws.winner_is_first.Goals as goal

pub returns : goal.returns
returns g c = winner_wins
