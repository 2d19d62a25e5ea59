use Rattle.word_pieces.proofs.Letters.{one_piece}
use Rattle.word_pieces.proofs.laws.letters_are_one_piece.Goals as goal

pub returns : goal.returns
returns c = one_piece
