use Rattle.std.proofs.Common.{refl}
use Rattle.hyphenation_breaks.proofs.LiesIn.{within}
use Rattle.hyphenation_breaks.proofs.breaks.lies_in.Goals as goal

pub returns-in-Some : goal.returns-in-Some
returns-in-Some g c =
    within c.args.text.now (g.B.Break.meaning c.args.b.now) c.place.result c.in-Some.range c.are_boundaries.result c.invariant.ensures.boundary c.invariant.ensures.writable
    (c.in-Some.ensures.known.0 refl) c.place.ensures c.in-Some.ensures.value c.are_boundaries.ensures
