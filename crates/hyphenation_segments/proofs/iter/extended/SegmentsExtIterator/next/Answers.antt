use Rattle.std.proofs.Common.{rules}
use Rattle.hyphenation_segments.proofs.SegmentSteps.{made_step}
use Rattle.hyphenation_segments.proofs.iter.extended.SegmentsExtIterator.next.Goals as goal

pub invariant_of-self-2 : goal.invariant_of-self-2
invariant_of-self-2 g c = made_step _ _ _ _ _ _ _ _ c.in_ok-start.was c.in_ok-b.ensures c.self.invariant (search rules)
