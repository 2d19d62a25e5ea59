use Rattle.std.proofs.Common.{length, ap, arith}
use Rattle.composed_words.proofs.PlacesOfSegments.{parts_length, segment_whole}
use Rattle.composed_words.proofs.carrying.push_segment.Goals as goal

pub overflow_add-end : goal.overflow_add-end
overflow_add-end c =
    omega (
      arith,
      parts_length c.boundary_is_of_chars.ensures c.args.word.now c.args.start c.args.segment.now c.args.base c.requires.segment,
      ap length c.requires.nfc,
      c.in_ok-end.ensures,
    )

pub returns-clause-items : goal.returns-clause-items
returns-clause-items c =
    segment_whole c.boundary_is_of_chars.ensures c.args.word.now c.args.start c.args.segment.now c.args.base c.requires.segment c.args.places.now
    c.args.found.now.items c.push_if.new.found.items c.push_inner.new.found.items c.contains.result c.requires.some c.contains.ensures.value c.in_ok-push_if.ensures
    c.in_ok-push_inner.ensures
