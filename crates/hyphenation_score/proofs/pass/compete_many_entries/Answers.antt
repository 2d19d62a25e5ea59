use Rattle.std.proofs.Common.{◌-◌, ◌+◌, ◌∷◌, [], take, refl, ◌∙◌}
use Rattle.hyphenation_score.specs.Private.OnePass.{bearing}
use Rattle.hyphenation_score.proofs.OnePass.{bearing_more, after_more}
use Rattle.hyphenation_score.proofs.pass.compete_many_entries.Goals as goal

pub loop-entry-init : goal.loop-entry-init
loop-entry-init g c = record { len = refl; met = λ i d lt. refl }

pub loop-entry-preserved : goal.loop-entry-preserved
loop-entry-preserved g c =
    let es = c.args.entries.now in
    let start = c.args.end - c.args.depth in
    let k = c.loop-entry.entry-index in
    let entry = c.entry-item.result in
    record {
      len = c.compete_at_place.auto.slots ∙ c.loop-entry.invariant.len;
      met = after_more g.S.Slot.meaning g.S.Slot.after c.args.slots.now c.loop-entry.slots c.compete_at_place.new.slots (bearing (take k es) start) (bearing (entry ∷ []) start) (bearing (take (k + 1) es) start)
          c.loop-entry.invariant.len (bearing_more es k entry start c.loop-entry-test.true c.entry-item.is) c.loop-entry.invariant.met c.compete_at_place.ensures;
    }
