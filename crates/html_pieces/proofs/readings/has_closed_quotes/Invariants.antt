use Rattle.std.proofs.Common.{◌≡◌, drop}
use Rattle.html_pieces.specs.Readings.{has_closed_quotes}
use Rattle.html_pieces.proofs.readings.has_closed_quotes.Given as goal

abbrev pub invariant-loop-byte : goal.invariant-loop-byte
invariant-loop-byte l = has_closed_quotes l.quote (drop l.byte-index l.bytes) ≡ has_closed_quotes 0 l.bytes
