use Rattle.std.proofs.Common.{◌≡◌, ◌++◌, drop}
use Rattle.explanations.specs.Columns.{places_from}
use Rattle.explanations.proofs.layout.places_of_chars.Given as goal

abbrev pub invariant-loop-character : goal.invariant-loop-character
invariant-loop-character l = l.places.items ++ places_from l.values l.at l.value (drop l.character-index l.letters) ≡ places_from l.values 0 0 l.letters
