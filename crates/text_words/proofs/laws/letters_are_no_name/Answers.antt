use Rattle.text_words.proofs.Letters.{no_name}
use Rattle.text_words.proofs.laws.letters_are_no_name.Goals as goal

pub returns : goal.returns
returns c = no_name
