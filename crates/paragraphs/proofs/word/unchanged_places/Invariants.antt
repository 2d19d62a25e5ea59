use Rattle.std.proofs.Common.{◌≡◌, ◌++◌, map, drop}
use Rattle.paragraphs.specs.Parts.{unchanged_places}
use Rattle.paragraphs.proofs.word.unchanged_places.Given as goal

abbrev pub invariant-loop-b : goal.invariant-loop-b
invariant-loop-b g l =
    l.places.items ++ unchanged_places (map g.B.Break.meaning (drop l.b-index l.breaks)) ≡ unchanged_places (map g.B.Break.meaning l.breaks)
