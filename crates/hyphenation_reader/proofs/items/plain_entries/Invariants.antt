use Rattle.std.proofs.Common.{◌≡◌, ◌++◌, [], drop}
use Rattle.hyphenation_reader.specs.Private.LineAnswers.{entries_of}
use Rattle.hyphenation_reader.proofs.items.plain_entries.Given as goal

abbrev pub invariant-loop-value : goal.invariant-loop-value
invariant-loop-value g l = l.entries.items ++ entries_of g.C.Payload.payload_of (drop l.value-index l.values) [] ≡ entries_of g.C.Payload.payload_of l.values []
