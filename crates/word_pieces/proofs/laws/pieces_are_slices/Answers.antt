use Rattle.word_pieces.proofs.Slices.{slices, join}
use Rattle.word_pieces.proofs.laws.pieces_are_slices.Goals as goal

pub returns-clause-slices : goal.returns-clause-slices
returns-clause-slices c = slices

pub returns-clause-join : goal.returns-clause-join
returns-clause-join c = join
