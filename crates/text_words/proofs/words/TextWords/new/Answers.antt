use Rattle.std.proofs.Common.{ap}
use Rattle.std.specs.List.{flat_map}
use Rattle.text_words.specs.Left.{words_left}
use Rattle.text_words.specs.Words.{text_words, words_of_piece}
use Rattle.text_words.proofs.words.TextWords.new.Goals as goal

pub returns : goal.returns
unfolding words_left text_words
returns c = record { left = ap (flat_map words_of_piece) c.new.ensures.left }
