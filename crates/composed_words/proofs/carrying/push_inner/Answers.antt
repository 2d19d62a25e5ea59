use Rattle.std.proofs.Common.{sym, ap, ◌∙◌}
use Rattle.composed_words.specs.Private.Segments.{has_between}
use Rattle.composed_words.proofs.PlacesOfSegments.{inner_none}
use Rattle.composed_words.proofs.carrying.push_inner.Goals as goal

pub returns : goal.returns
returns c =
    inner_none c.boundary_is_of_chars.ensures c.args.word.now c.args.start c.args.segment.now c.args.base c.requires.segment c.args.places.now c.args.found.now.items
    (ap (has_between c.args.places.now c.args.base) (sym c.requires.end) ∙ sym c.has_between.ensures ∙ c.if-has_between.false) c.requires.some
