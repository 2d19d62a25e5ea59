use Rattle.std.proofs.Common.{◌≡◌, ◌*◌, length}
use Rattle.hyphenation_trie.proofs.TableRows.{AreRight}
use Rattle.hyphenation_trie.proofs.table.rows.cells_by_depth.Given as goal

abbrev pub invariant-loop-node : goal.invariant-loop-node
invariant-loop-node g l = record {
  count : length l.cells.items ≡ length l.rows.nodes.items * l.quarter * 4;
  right : AreRight l.trie.tree l.order l.rows.nodes.items l.numbers l.classes l.quarter l.split l.node-index l.cells.items;
}
