use Rattle.std.proofs.Common.{◌≡◌, ◌≤◌, length, map, take}
use Rattle.any_dictionary.proofs.places.places_of.Given as goal

abbrev pub invariant-loop-b : goal.invariant-loop-b
invariant-loop-b g l = record {
  places : l.places.items ≡ map (λ b. b.place) (map g.B.Break.meaning (take l.b-index l.breaks));
  count : l.places.len ≡ l.b-index;
  room : length l.breaks ≤ l.places.cap;
}
