use Rattle.composed_words.proofs.PlacesOfSegments.{one_more}
use Rattle.composed_words.proofs.carrying.push_each.Goals as goal

pub loop-place-preserved : goal.loop-place-preserved
loop-place-preserved c =
    one_more c.args.word.now c.args.places.now c.args.found.now.items c.loop-place.found.items c.push_if.new.found.items c.args.start c.loop-place.place
    c.in_ok-stands.stands c.loop-place.auto.place c.loop-place.invariant c.in_ok-stands.ensures c.in_ok-push_if.ensures
