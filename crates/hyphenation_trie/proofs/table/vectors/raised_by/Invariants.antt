use Rattle.std.proofs.Common.{take}
use Rattle.hyphenation_trie.specs.Private.Known.{IsRaisedBy}
use Rattle.hyphenation_trie.specs.Vectors.{AreNearEntries}
use Rattle.hyphenation_trie.proofs.table.vectors.raised_by.Given as goal

abbrev pub invariant-loop-entry : goal.invariant-loop-entry
invariant-loop-entry g l = record {
  raised : IsRaisedBy g.C.Payload.rank_of l.vector l.raised (take l.entry-index l.entries) l.bytes;
  near : AreNearEntries (take l.entry-index l.entries) l.bytes;
}
