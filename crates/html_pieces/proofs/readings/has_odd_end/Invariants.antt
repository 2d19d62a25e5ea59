use Rattle.std.proofs.Common.{◌≡◌, drop}
use Rattle.html_pieces.specs.Readings.{has_odd_end}
use Rattle.html_pieces.proofs.readings.has_odd_end.Given as goal

abbrev pub invariant-loop-i : goal.invariant-loop-i
invariant-loop-i l = has_odd_end (drop l.i l.comment) ≡ has_odd_end (drop 4 l.comment)
