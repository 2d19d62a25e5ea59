use Rattle.std.proofs.Common.{◌≡◌, ◌++◌, drop, flat_map}
use Rattle.explanations.specs.Lines.{plain_field}
use Rattle.explanations.proofs.lines.push_places.Given as goal

abbrev pub invariant-loop-place : goal.invariant-loop-place
invariant-loop-place l = l.text.items ++ flat_map plain_field (drop l.place-index l.places) ≡ l.initial.text.items ++ flat_map plain_field l.places
