use Rattle.std.proofs.Common.{◌≡◌, ◌++◌, drop}
use Rattle.html_pieces.specs.References.{read_from, read_value}
use Rattle.html_pieces.proofs.references.read.Given as goal

abbrev pub invariant-loop-i : goal.invariant-loop-i
invariant-loop-i l = l.read.items ++ read_from l.skip (drop l.i l.value) ≡ read_value l.value
