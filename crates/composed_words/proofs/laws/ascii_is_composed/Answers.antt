use Rattle.composed_words.proofs.LawsOfPlaces.{ascii}
use Rattle.composed_words.proofs.laws.ascii_is_composed.Goals as goal

pub returns : goal.returns
returns c = ascii
