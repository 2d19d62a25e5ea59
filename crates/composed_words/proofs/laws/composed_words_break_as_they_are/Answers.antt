use Rattle.composed_words.proofs.LawsOfPlaces.{as_it_is}
use Rattle.composed_words.proofs.laws.composed_words_break_as_they_are.Goals as goal

pub returns : goal.returns
returns c = as_it_is
