use Rattle.composed_words.proofs.LawsOfPlaces.{alike}
use Rattle.composed_words.proofs.laws.equivalent_words_break_alike.Goals as goal

pub returns : goal.returns
returns c = alike
