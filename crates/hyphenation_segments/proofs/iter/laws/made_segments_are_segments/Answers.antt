use Rattle.hyphenation_breaks.specs.Break.{plain_break}
use Rattle.hyphenation_segments.proofs.SegmentSteps.{texts_made}
use Rattle.hyphenation_segments.proofs.iter.laws.made_segments_are_segments.Goals as goal

pub returns : goal.returns
returns c = λ text breaks. texts_made text (plain_break 0) breaks
