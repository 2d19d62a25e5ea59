use Rattle.hyphenation_score.proofs.WinnerPlaces.{bears_at}
use Rattle.hyphenation_score.proofs.laws.value_is_greatest.Goals as goal

pub returns : goal.returns
returns g c = bears_at
