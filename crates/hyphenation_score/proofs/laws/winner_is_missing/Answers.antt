use Rattle.hyphenation_score.specs.Scoring.{frame, bearers}
use Rattle.hyphenation_score.proofs.FirstGreatest.{first_none}
use Rattle.hyphenation_score.proofs.WinnerPlaces.{missing_value}
use Rattle.hyphenation_score.proofs.laws.winner_is_missing.Goals as goal

pub returns : goal.returns
returns g c = λ keys word p. (missing_value keys word p, first_none (bearers keys (frame word) p))
