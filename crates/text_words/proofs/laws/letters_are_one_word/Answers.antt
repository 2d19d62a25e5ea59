use Rattle.text_words.proofs.LetterWords.{one_word}
use Rattle.text_words.proofs.laws.letters_are_one_word.Goals as goal

pub returns : goal.returns
returns c = one_word c.letters_are_one_piece.ensures
