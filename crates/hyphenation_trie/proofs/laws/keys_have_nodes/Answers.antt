use Rattle.hyphenation_trie.proofs.KeyNodes.{node_of_key}
use Rattle.hyphenation_trie.proofs.laws.keys_have_nodes.Goals as goal

pub returns : goal.returns
returns g c = λ tree. node_of_key tree.texts tree.entries
