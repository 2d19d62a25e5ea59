use Rattle.hyphenation_score.proofs.WinnerPlaces.{value_borne}
use Rattle.hyphenation_score.proofs.laws.value_is_borne.Goals as goal

pub returns : goal.returns
returns g c = value_borne
