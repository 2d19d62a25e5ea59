use Rattle.unicode_segmentation.proofs.SegmentsLemmas.{length-with_offsets}
use Rattle.word_pieces.proofs.pieces.WordPieceIndices.new.Goals as goal

pub returns-clause-len : goal.returns-clause-len
returns-clause-len c = rw length-with_offsets c.new.ensures.len
