use Rattle.std.proofs.Common.{◌++◌, refl, ap, sym, ◌∙◌}
use Rattle.std.specs.List.{flat_map}
use Rattle.text_words.specs.Left.{words_left}
use Rattle.text_words.specs.Words.{words_of_piece}
use Rattle.word_pieces.specs.Pieces.{pieces_left}
use Rattle.text_words.proofs.words.TextWords.next_word.Goals as goal

pub returns-then-is_one_word : goal.returns-then-is_one_word
unfolding words_left
returns-then-is_one_word c =
    let one = c.is_one_word.ensures c.if-is_one_word.true (c.if-not-begin_piece.ensures.some refl) in
    sym c.begin_piece.ensures.words ∙ ap (λ ws. ws ++ flat_map words_of_piece (pieces_left c.begin_piece.new.self.pieces)) one
