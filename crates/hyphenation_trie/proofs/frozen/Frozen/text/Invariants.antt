use Rattle.std.proofs.Common.{◌≡◌, ◌++◌, ◌<◌, length}
use Rattle.std.specs.Prelude.{reverse}
use Rattle.hyphenation_trie.specs.Trie.{node_text}
use Rattle.hyphenation_trie.proofs.frozen.Frozen.text.Given as goal

abbrev pub invariant-loop-at : goal.invariant-loop-at
invariant-loop-at g l = (l.at < length l.self.tree.texts) × (node_text l.self.tree l.at ++ reverse l.text.items ≡ node_text l.self.tree l.node)

abbrev pub decreases-loop-at : goal.decreases-loop-at
decreases-loop-at g l = l.at
