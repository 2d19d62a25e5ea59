use Rattle.hyphenation_segments.proofs.SegmentSteps.{fits_next}
use Rattle.hyphenation_segments.proofs.iter.plain.SegmentsIterator.next.Goals as goal

pub invariant_of-self-2 : goal.invariant_of-self-2
invariant_of-self-2 g c = (fits_next _ _ _ _ _ _ c.in_ok-start.was c.in_ok-place.ensures c.self.invariant).1
