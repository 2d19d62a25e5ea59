use Rattle.hyphenation_breaks.specs.Break.{plain_break}
use Rattle.hyphenation_segments.proofs.SegmentsJoin.{neighbours}
use Rattle.hyphenation_segments.proofs.iter.laws.segments_are_given_by_neighbours.Goals as goal

pub returns : goal.returns
returns c = λ text breaks number within. neighbours text (plain_break 0) breaks number within
