-- The words that the iterator has left.
use Rattle.std.specs.Prelude.{List, ℕ, ◌++◌}
use Rattle.std.specs.List.{flat_map}
use Rattle.word_pieces.specs.Pieces.{pieces_left}
use Rattle.text_words.specs.Words.{words_of_piece}
use Rattle.text_words.specs.declared.words.TextWords.{TextWords}

-- The words that are still to come.
unfoldable pub words_left : TextWords → List (List ℕ)
words_left s = words_of_piece s.rest.now ++ flat_map words_of_piece (pieces_left s.pieces)
