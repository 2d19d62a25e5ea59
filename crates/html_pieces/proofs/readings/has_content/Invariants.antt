use Rattle.std.proofs.Common.{◌≡◌, drop}
use Rattle.html_pieces.specs.Readings.{has_content}
use Rattle.html_pieces.proofs.readings.has_content.Given as goal

abbrev pub invariant-loop-byte : goal.invariant-loop-byte
invariant-loop-byte l = has_content (drop l.byte-index l.text) ≡ has_content l.text
