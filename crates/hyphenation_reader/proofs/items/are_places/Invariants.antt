use Rattle.std.proofs.Common.{◌≡◌, drop, map}
use Rattle.hyphenation_breaks.specs.Break.{ascend_on}
use Rattle.hyphenation_reader.proofs.items.are_places.Given as goal

abbrev pub invariant-loop-b : goal.invariant-loop-b
invariant-loop-b l = ascend_on l.text l.least (map (λ b. b.0) (drop l.b-index l.listed)) ≡ ascend_on l.text 0 (map (λ b. b.0) l.listed)
