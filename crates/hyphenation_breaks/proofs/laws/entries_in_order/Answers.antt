use Rattle.hyphenation_breaks.proofs.PlacesInOrder.{entries_in_order}
use Rattle.hyphenation_breaks.proofs.laws.entries_in_order.Goals as goal

pub returns : goal.returns
returns g c = λ change_of key entries. entries_in_order change_of key 0 entries
