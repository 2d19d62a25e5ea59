use Rattle.std.proofs.Common.{◌≡◌, ◌++◌, map, drop}
use Rattle.any_dictionary.specs.Dictionaries.{plain_places}
use Rattle.any_dictionary.proofs.places.plain_places_of.Given as goal

abbrev pub invariant-loop-b : goal.invariant-loop-b
invariant-loop-b g l =
    l.places.items ++ plain_places (map g.B.Break.meaning (drop l.b-index l.breaks)) ≡ plain_places (map g.B.Break.meaning l.breaks)
