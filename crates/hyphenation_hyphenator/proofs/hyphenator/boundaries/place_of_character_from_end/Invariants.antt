use Rattle.hyphenation_hyphenator.proofs.PlacesFromEnd.{AreLast}
use Rattle.hyphenation_hyphenator.proofs.hyphenator.boundaries.place_of_character_from_end.Given as goal

abbrev pub invariant-loop-count : goal.invariant-loop-count
invariant-loop-count l = AreLast l.text l.rest l.count
