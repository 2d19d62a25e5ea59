use Rattle.hyphenation_breaks.specs.Break.{plain_break}
use Rattle.hyphenation_segments.proofs.SegmentSteps.{segments_count}
use Rattle.hyphenation_segments.proofs.iter.laws.segments_are_one_more_than_breaks.Goals as goal

pub returns : goal.returns
returns c = λ text breaks. segments_count text (plain_break 0) breaks
