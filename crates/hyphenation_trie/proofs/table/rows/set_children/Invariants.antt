use Rattle.std.proofs.Common.{◌≡◌, ◌<◌, ◌++◌, [], ◌∷◌, ℕ, length, slice_index}
use Rattle.hyphenation_trie.specs.Trie.{node_text}
use Rattle.hyphenation_trie.specs.Private.TableRows.{IsMadeOf}
use Rattle.hyphenation_trie.proofs.table.rows.set_children.Given as goal

abbrev pub invariant-loop-child : goal.invariant-loop-child
invariant-loop-child g l = record {
  count : length l.cells.items ≡ length l.fn.cells.items;
  child : 0 < l.child → (l.child < length l.trie.texts) × (byte : ℕ) × (node_text l.trie l.child ≡ node_text l.trie (slice_index l.rows.nodes.items l.row) ++ byte ∷ []);
  made : IsMadeOf l.trie l.rows.nodes.items l.rows.of.items l.numbers l.classes l.quarter l.split l.child l.row l.row l.fn.cells.items l.cells.items;
}

abbrev pub decreases-loop-child : goal.decreases-loop-child
decreases-loop-child g l = l.child
