use Rattle.std.proofs.Common.{length, ◌∙◌, arith}
use Rattle.std.proofs.lemmas.List.{length-set}
use Rattle.hyphenation_hyphenator.proofs.OddPlaces.{within_alone, outside, next_written, test_of}
use Rattle.hyphenation_hyphenator.proofs.hyphenator.pattern_breaks.write_odd_places.Goals as goal

pub loop-place-preserved : goal.loop-place-preserved
loop-place-preserved c =
    let values = c.args.values.now in
    let found = c.loop-place.found in
    let count = c.loop-place.count in
    let first = c.max-first.result in
    let end = c.min-end.result in
    let at = c.loop-place.place in
    let before = c.loop-place.invariant in
    record {
      room = length-set found count at ∙ before.room;
      short = omega (arith, before.few);
      few = omega (arith, before.few);
      places = next_written values found c.args.bounds first end at count c.max-first.ensures c.min-end.ensures (omega arith) (omega arith) (omega (arith, before.room, before.few)) before.places;
    }

pub returns-clause-count : goal.returns-clause-count
returns-clause-count c = c.loop-place.invariant.short

pub returns-clause-found : goal.returns-clause-found
returns-clause-found c =
    let values = c.args.values.now in
    let first = c.max-first.result in
    let end = c.min-end.result in
    c.loop-place.invariant.places
    ∙ within_alone (test_of values c.args.bounds) first end c.loop-place.place (length values) (omega arith) (omega arith) (omega arith) (omega arith) c.loop-place.auto.place-end
    (λ p one out. outside values c.args.bounds first end p c.max-first.ensures c.min-end.ensures one out)
