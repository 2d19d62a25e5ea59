use Rattle.std.proofs.Common.{◌≡◌, map, take}
use Rattle.any_dictionary.proofs.values.without_changes.Given as goal

abbrev pub invariant-loop-pair : goal.invariant-loop-pair
invariant-loop-pair l = l.values.items ≡ map (λ pair. pair.0) (take l.pair-index l.scored)
