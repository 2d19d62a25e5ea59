use Rattle.std.proofs.Common.{ap, map, ℕ, List, Bool}
use Rattle.hyphenation_segments.proofs.SegmentSteps.{pull_held}
use Rattle.hyphenation_segments.proofs.iter.extended.SegmentsExtTexts.pull.Goals as goal

pub returns-clause-takes_first : goal.returns-clause-takes_first
returns-clause-takes_first g c =
    let t = c.in_ok-segment.ensures.steps in
    (t.0.0, ap (map {A = List ℕ × Bool} {B = List ℕ} (λ made. made.0)) t.1, pull_held t.0 _ t.2)
