use Rattle.std.proofs.Common.{refl}
use Rattle.std.specs.Str.{chars}
use Rattle.std.proofs.lemmas.Str.{IsCharBoundary-start}
use Rattle.unicode_segmentation.specs.Word.{starts_with_half_flag, significant}
use Rattle.unicode_segmentation.proofs.SegmentsLemmas.{segments_between-whole, length-segments}
use Rattle.word_pieces.specs.Pieces.{pieces_left, pieces_offset}
use Rattle.word_pieces.proofs.pieces.WordPieces.new.Goals as goal

pub invariant_of-result : goal.invariant_of-result
unfolding chars starts_with_half_flag significant
invariant_of-result c = record { utf8 = ∣ c.utf8.text ∣₁; boundary = IsCharBoundary-start _ c.utf8.text; flag = refl }

pub returns-clause-left : goal.returns-clause-left
unfolding pieces_left
returns-clause-left c = segments_between-whole _ _ c.utf8.text

pub returns-clause-offset : goal.returns-clause-offset
unfolding pieces_offset
returns-clause-offset c = refl

pub returns-clause-len : goal.returns-clause-len
unfolding pieces_left
returns-clause-len c = rw (segments_between-whole _ _ c.utf8.text) (length-segments _ _ c.utf8.text)
