use Rattle.text_words.proofs.WordSlices.{join, slices}
use Rattle.text_words.proofs.laws.words_are_slices.Goals as goal

pub returns-clause-slices : goal.returns-clause-slices
returns-clause-slices c = slices c.pieces_are_slices.ensures.slices c.pieces_are_slices.ensures.join

pub returns-clause-join : goal.returns-clause-join
returns-clause-join c = join c.pieces_are_slices.ensures.join
