use Rattle.composed_words.proofs.LawsOfPlaces.{not_joined}
use Rattle.composed_words.proofs.laws.nothing_is_joined.Goals as goal

pub returns : goal.returns
returns c = not_joined
