use Rattle.std.proofs.Common.{◌≤◌, length}
use Rattle.hyphenation_trie.specs.Private.TableRows.{AreInner}
use Rattle.hyphenation_trie.proofs.table.rows.inner_nodes.Given as goal

abbrev pub invariant-loop-node : goal.invariant-loop-node
invariant-loop-node g l = record {
  within : l.node ≤ length l.trie.tree.texts;
  inner : AreInner l.trie.tree l.inner.items l.node;
}
