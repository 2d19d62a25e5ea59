use Rattle.std.proofs.Common.{◌≡◌, ◌++◌, drop}
use Rattle.explanations.specs.Escaping.{escaped, escaped_after}
use Rattle.explanations.proofs.escaping.push_escaped.Given as goal

abbrev pub invariant-loop-byte : goal.invariant-loop-byte
invariant-loop-byte l = l.text.items ++ escaped_after l.first l.second (drop l.byte-index l.bytes) ≡ l.initial.text.items ++ escaped l.bytes
