use Rattle.std.proofs.Common.{◌≡◌, drop}
use Rattle.html_pieces.specs.Readings.{ends_at_first}
use Rattle.html_pieces.proofs.readings.ends_at_first.Given as goal

abbrev pub invariant-loop-i : goal.invariant-loop-i
invariant-loop-i l = ends_at_first (drop l.i l.bytes) ≡ ends_at_first l.bytes
