use Rattle.hyphenation_trie.proofs.TableRows.{AreNumbered}
use Rattle.hyphenation_trie.proofs.table.rows.rows_of.Given as goal

abbrev pub invariant-loop-node : goal.invariant-loop-node
invariant-loop-node g l = AreNumbered l.trie.tree l.order l.inner l.nodes.items l.of.items l.node-index
