use Rattle.std.proofs.Common.{◌≡◌, ◌++◌, drop, map}
use Rattle.explanations.specs.Facts.{place_of}
use Rattle.explanations.proofs.known.places_of.Given as goal

abbrev pub invariant-loop-b : goal.invariant-loop-b
invariant-loop-b g l = l.places.items ++ map place_of (map g.O.Break.meaning (drop l.b-index l.breaks)) ≡ map place_of (map g.O.Break.meaning l.breaks)
