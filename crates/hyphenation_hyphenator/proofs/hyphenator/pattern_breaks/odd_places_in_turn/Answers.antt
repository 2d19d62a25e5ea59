use Rattle.std.proofs.Common.{◌-◌, filter, length, map, refl, ap, ◌∙◌, arith}
use Rattle.std.specs.List.{range_with_len}
use Rattle.hyphenation_breaks.specs.Break.{plain_break}
use Rattle.hyphenation_hyphenator.proofs.OddPlaces.{within_alone, outside, next_odd, next_even, even_none, plain_next, test_of}
use Rattle.hyphenation_hyphenator.proofs.hyphenator.pattern_breaks.odd_places_in_turn.Goals as goal
use Rattle.hyphenation_hyphenator.proofs.hyphenator.pattern_breaks.odd_places_in_turn.Goals.{then-values-place-eq1+in_ok-push_with_room, else-values-place-eq1}

pub loop-place-init : goal.loop-place-init
loop-place-init g c =
    ap (map g.F.Break.meaning) c.requires
    ∙ ap (map plain_break) (even_none c.args.values.now c.args.bounds c.max-first.result c.max-first.result (λ p low high. absurd (omega arith)))

pub loop-place-preserved : goal.loop-place-preserved
loop-place-preserved g c =
    let m = g.F.Break.meaning in
    let values = c.args.values.now in
    let first = c.max-first.result in
    let end = c.min-last.result in
    let at = c.loop-place.place in
    let places = filter (test_of values c.args.bounds) (range_with_len first (at - first)) in
    elim c.if-values-place-eq1.branch [
      | then-values-place-eq1+in_ok-push_with_room w ↦ rw (w.list-is, w.in_ok-push_with_room.ensures)
          (plain_next m c.loop-place.list.items places w.plain.result at c.loop-place.invariant w.plain.ensures
          ∙ ap (map plain_break) (next_odd values places c.args.bounds first end at c.max-first.ensures c.min-last.ensures (omega arith) (omega arith) refl w.if-values-place-eq1.true))
      | else-values-place-eq1 w ↦ rw w.list-is
          (c.loop-place.invariant
          ∙ ap (map plain_break) (next_even values places c.args.bounds first end at c.max-first.ensures c.min-last.ensures (omega arith) (omega arith) refl w.if-values-place-eq1.false))
    ]

pub returns : goal.returns
returns g c =
    let values = c.args.values.now in
    let first = c.max-first.result in
    let end = c.min-last.result in
    c.loop-place.invariant
    ∙ ap (map plain_break) (within_alone (test_of values c.args.bounds) first end c.loop-place.place (length values) (omega arith) (omega arith) (omega arith) (omega arith) c.loop-place.auto.place-end
    (λ p one out. outside values c.args.bounds first end p c.max-first.ensures c.min-last.ensures one out))
