use Rattle.std.proofs.Common.{◌≤◌, length}
use Rattle.hyphenation_trie.specs.Private.TableRows.{AreOwnRows}
use Rattle.hyphenation_trie.proofs.table.rows.own_rows.Given as goal

abbrev pub invariant-loop-node : goal.invariant-loop-node
invariant-loop-node l = record {
  within : l.node ≤ length l.inner;
  own : AreOwnRows l.inner l.nodes.items l.of.items l.node;
}
