use Rattle.std.proofs.Common.{◌≡◌, drop}
use Rattle.html_pieces.specs.Readings.{mentions}
use Rattle.html_pieces.proofs.readings.mentions.Given as goal

abbrev pub invariant-loop-i : goal.invariant-loop-i
invariant-loop-i l = mentions l.word (drop l.i l.bytes) ≡ mentions l.word l.bytes
