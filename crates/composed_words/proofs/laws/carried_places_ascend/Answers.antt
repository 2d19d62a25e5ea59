use Rattle.composed_words.proofs.LawsOfPlaces.{ascend}
use Rattle.composed_words.proofs.laws.carried_places_ascend.Goals as goal

pub returns : goal.returns
returns c = ascend
