use Rattle.std.proofs.Common.{◌∷◌, drop, ap, sym, ◌∙◌}
use Rattle.text_words.specs.Left.{words_left}
use Rattle.text_words.specs.Words.{words_of_piece}
use Rattle.text_words.proofs.Taken.{taken}
use Rattle.text_words.proofs.words.TextWords.cut_word.Goals as goal

pub returns : goal.returns
unfolding words_left
returns c =
    let rest = c.args.self.now.rest.now in
    taken rest _ c.split_at.result.1.now _ (c.first_length.ensures.word
    ∙ ap (λ w. w ∷ words_of_piece (drop c.first_length.result rest)) (sym c.split_at.ensures.front) ∙ ap (λ r. c.split_at.result.0.now ∷ words_of_piece r) (sym c.split_at.ensures.back))
