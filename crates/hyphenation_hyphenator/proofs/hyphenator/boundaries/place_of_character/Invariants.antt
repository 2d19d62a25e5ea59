use Rattle.hyphenation_hyphenator.proofs.CharacterPlaces.{AreFirst}
use Rattle.hyphenation_hyphenator.proofs.hyphenator.boundaries.place_of_character.Given as goal

abbrev pub invariant-loop-count : goal.invariant-loop-count
invariant-loop-count l = AreFirst l.text l.rest l.count
