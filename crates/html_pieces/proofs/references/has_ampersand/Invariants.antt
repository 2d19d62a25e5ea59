use Rattle.std.proofs.Common.{◌≡◌, drop}
use Rattle.html_pieces.specs.References.{has_ampersand}
use Rattle.html_pieces.proofs.references.has_ampersand.Given as goal

abbrev pub invariant-loop-byte : goal.invariant-loop-byte
invariant-loop-byte l = has_ampersand (drop l.byte-index l.value) ≡ has_ampersand l.value
