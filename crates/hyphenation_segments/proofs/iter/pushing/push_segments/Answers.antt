use Rattle.std.proofs.Common.{refl}
use Rattle.std.proofs.Transfers.{starts_with_of_eq, starts_with_trans}
use Rattle.hyphenation_segments.proofs.Pushing.{at_first, one_more}
use Rattle.hyphenation_segments.proofs.iter.pushing.push_segments.Goals as goal

pub loop-b-init : goal.loop-b-init
loop-b-init g c = ((refl, at_first _ _ c.utf8.text c.requires), starts_with_of_eq _ _ refl)

pub loop-b-preserved : goal.loop-b-preserved
loop-b-preserved g c = (
  one_more g.B.Break.meaning _ _ _ _ _ _ _ _ _ _ c.loop-b-test.true c.b-item.is c.loop-b.invariant.0 c.in_ok-start.ensures.appended c.in_ok-start.ensures.range_end,
  starts_with_trans _ _ _ c.in_ok-start.ensures.begins_as_before c.loop-b.invariant.1,
)
