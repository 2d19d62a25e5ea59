use Rattle.std.proofs.Common.{◌≡◌, ◌++◌, drop}
use Rattle.std.specs.Prelude.{flat_map}
use Rattle.hyphenation_writer.specs.Canonical.{byte_spelling}
use Rattle.hyphenation_writer.proofs.writer.push_bytes.Given as goal

abbrev pub invariant-loop-byte : goal.invariant-loop-byte
invariant-loop-byte l = l.text.items ++ flat_map (byte_spelling l.escapes) (drop l.byte-index l.bytes) ≡ l.initial.text.items ++ flat_map (byte_spelling l.escapes) l.bytes
