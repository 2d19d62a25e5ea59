use Rattle.std.proofs.Common.{◌≡◌, drop}
use Rattle.hyphenation_breaks.specs.Invariant.{has_letter}
use Rattle.hyphenation_breaks.proofs.entry.has_letter.Given as goal

abbrev pub invariant-loop-b : goal.invariant-loop-b
invariant-loop-b l = has_letter l.key ≡ has_letter (drop l.b-index l.key)
