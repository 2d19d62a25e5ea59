use Rattle.hyphenation_breaks.proofs.PlacesInOrder.{listed_in_order}
use Rattle.hyphenation_breaks.proofs.laws.listed_in_order.Goals as goal

pub returns : goal.returns
returns g c = λ break_of word listed. listed_in_order break_of word 0 listed
