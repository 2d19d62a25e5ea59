use Rattle.std.proofs.Common.{arith, ◌∙◌, sym, ap, length, ◌+◌}
use Rattle.hyphenation_segments.proofs.SegmentSteps.{left_fits, left_is}
use Rattle.hyphenation_segments.proofs.iter.plain.SegmentsExactSizeIterator.len.Goals as goal

pub overflow_add-result : goal.overflow_add-result
overflow_add-result g c = omega (arith, c.self.told.1, c.left.ensures, left_fits _ _ _ _ c.in-Some.is c.self.invariant)

pub returns-in-Some-clause-value : goal.returns-in-Some-clause-value
returns-in-Some-clause-value g c =
    ap (λ n. n + 1) c.left.ensures ∙ sym (left_is _ _ _ _ c.in-Some.is) ∙ ap length c.self.view_is
