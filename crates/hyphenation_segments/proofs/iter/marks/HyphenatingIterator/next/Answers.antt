use Rattle.std.proofs.Common.{refl, ap, ◌++◌, ◌≡◌}
use Rattle.hyphenation_segments.proofs.SegmentSteps.{held_is}
use Rattle.hyphenation_segments.specs.Segments.{marked_segments, mark_if_more}
use Rattle.hyphenation_segments.proofs.iter.marks.HyphenatingIterator.next.Goals as goal

pub returns-in-Ok-clause-steps : goal.returns-in-Ok-clause-steps
returns-in-Ok-clause-steps g c =
    let t = c.in_ok-segment.ensures in
    rw (← c.self.view_is) (
      (
        t.0 ++ mark_if_more c.self.inside.mark.now (g.I.Texts.texts c.pull.new.self),
        ap (marked_segments c.self.inside.mark.now) t.1,
        let e : c.in-Ok.text.now ≡ t.0 = held_is _ _ _ c.in-Ok.ensures t.2 in
            rw (← c.mark_after-mark.ensures, ← e) c.with_mark.ensures,
      ),
      refl,
    )

pub returns-clause-steps : goal.returns-clause-steps
returns-clause-steps g c =
    let t = c.in_ok-segment.ensures in
    rw (← c.self.view_is)
    ((t.0 ++ mark_if_more c.self.inside.mark.now (g.I.Texts.texts c.pull.new.self), ap (marked_segments c.self.inside.mark.now) t.1, tt), refl)
