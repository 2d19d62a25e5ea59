use Rattle.std.proofs.Common.{◌≡◌, ◌++◌, drop}
use Rattle.hyphenation_reader.specs.Private.Matched.{matched_entries, unmatched_changes, pending}
use Rattle.hyphenation_reader.proofs.items.entries_with_changes.Given as goal

abbrev pub invariant-loop-value : goal.invariant-loop-value
invariant-loop-value g l = record {
  made : l.entries.items ++ matched_entries g.C.Payload.payload_of (drop l.value-index l.values) (pending l.next l.rest.rest.items) ≡ matched_entries g.C.Payload.payload_of l.values l.fn.listed.items;
  tail : unmatched_changes (drop l.value-index l.values) (pending l.next l.rest.rest.items) ≡ unmatched_changes l.values l.fn.listed.items;
}
