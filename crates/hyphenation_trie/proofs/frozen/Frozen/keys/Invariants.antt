use Rattle.std.proofs.Common.{◌≡◌, ◌++◌, drop}
use Rattle.hyphenation_trie.specs.Keys.{pairs_of, key_views}
use Rattle.hyphenation_trie.proofs.frozen.Frozen.keys.Given as goal

abbrev pub invariant-loop-node : goal.invariant-loop-node
invariant-loop-node g l = key_views l.keys.items ++ pairs_of (drop l.node l.self.tree.texts) (drop l.node l.self.tree.entries) ≡ pairs_of l.self.tree.texts l.self.tree.entries
