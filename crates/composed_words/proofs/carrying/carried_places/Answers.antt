use Rattle.std.proofs.Common.{length, sym, subst, ap, arith, rules, refl, length-append}
use Rattle.composed_words.proofs.PlacesOfSegments.{Carrying, carrying_starts, as_segment, carrying_on, rest_within, all_carried}
use Rattle.composed_words.proofs.carrying.carried_places.Goals as goal

pub loop-rest-init : goal.loop-rest-init
loop-rest-init c =
    (c.utf8.word, subst (λ found. Carrying c.args.word.now c.args.places.now c.args.word.now found 0) (sym c.new-found.ensures.items) (carrying_starts c.args.word.now c.args.places.now c.utf8.word))

pub overflow_sub-start : goal.overflow_sub-start
overflow_sub-start c = rest_within _ _ _ _ _ c.loop-rest.invariant.1

pub push_segment-requires-clause-segment : goal.push_segment-requires-clause-segment
push_segment-requires-clause-segment c =
    as_segment c.args.word.now c.args.places.now c.loop-rest.rest.now c.loop-rest.found.items c.loop-rest.base c.loop-rest.invariant.1 c.split_segment.result.0.now c.split_segment.result.1.now _
    c.split_segment.ensures.parts c.split_segment.ensures.front c.split_segment.ensures.rest c.split_segment.ensures.apart refl

pub loop-rest-preserved : goal.loop-rest-preserved
loop-rest-preserved c = (
  c.split_segment.ensures.rest,
  carrying_on c.args.word.now c.args.places.now c.loop-rest.rest.now c.loop-rest.found.items c.loop-rest.base c.loop-rest.invariant.1 c.split_segment.result.0.now c.split_segment.result.1.now _
      c.split_segment.ensures.parts c.split_segment.ensures.front c.split_segment.ensures.rest c.split_segment.ensures.apart refl
      c.push_segment.new.found.items c.in_ok-base.base (c.split_segment.ensures.some (search rules)) c.in_ok-base.ensures.items c.in_ok-base.ensures.next,
)

pub returns : goal.returns
returns c =
    all_carried c.boundary_is_of_chars.ensures c.args.word.now c.args.places.now c.loop-rest.rest.now c.loop-rest.found.items c.push_if.new.found.items c.loop-rest.base _
    c.contains.result c.loop-rest.invariant.1 (search rules) refl c.contains.ensures.value c.in_ok-push_if.ensures
