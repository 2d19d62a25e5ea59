use Rattle.std.proofs.Common.{◌≡◌, length}
use Rattle.word_pieces.specs.Pieces.{pieces_left}
use Rattle.text_words.specs.Left.{words_left}
use Rattle.text_words.proofs.words.TextWords.begin_piece.Given as goal

abbrev pub invariant-loop-self : goal.invariant-loop-self
invariant-loop-self l = words_left l.self ≡ words_left l.fn.self

abbrev pub decreases-loop-self : goal.decreases-loop-self
decreases-loop-self l = length (pieces_left l.self.pieces)
