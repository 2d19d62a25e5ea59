use Rattle.std.proofs.Common.{refl}
use Rattle.std.proofs.lemmas.Str.{IsCharBoundary-start}
use Rattle.hyphenation_segments.proofs.iter.extended.SegmentsExt.new.Goals as goal

pub invariant_of-result : goal.invariant_of-result
invariant_of-result g c = (refl, IsCharBoundary-start _ c.utf8.text, c.requires)
