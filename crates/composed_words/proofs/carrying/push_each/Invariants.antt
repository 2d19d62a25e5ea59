use Rattle.std.proofs.Common.{◌≡◌, ◌-◌, ◌++◌}
use Rattle.composed_words.specs.Private.Segments.{carried_among}
use Rattle.composed_words.proofs.carrying.push_each.Given as goal

abbrev pub invariant-loop-place : goal.invariant-loop-place
invariant-loop-place l = l.found.items ≡ l.initial.found.items ++ carried_among l.word l.places l.start (l.place - l.start)
