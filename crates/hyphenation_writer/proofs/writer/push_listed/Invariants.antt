use Rattle.std.proofs.Common.{◌≡◌, ◌++◌, drop, map}
use Rattle.hyphenation_writer.specs.Canonical.{later_tokens}
use Rattle.hyphenation_writer.proofs.writer.push_listed.Given as goal

abbrev pub invariant-loop-b : goal.invariant-loop-b
invariant-loop-b g l = l.text.items ++ later_tokens (map g.B.Break.meaning (drop l.b-index l.listed)) ≡ l.initial.text.items ++ later_tokens (map g.B.Break.meaning l.listed)
