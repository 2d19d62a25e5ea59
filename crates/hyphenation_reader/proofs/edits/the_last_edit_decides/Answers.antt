use Rattle.hyphenation_reader.proofs.EditsLemmas.{last_decides}
use Rattle.hyphenation_reader.proofs.edits.the_last_edit_decides.Goals as goal

pub returns : goal.returns
returns g c = λ listing_of dictionary edits word. last_decides listing_of dictionary edits word
