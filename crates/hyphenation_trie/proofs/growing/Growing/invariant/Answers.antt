use Rattle.hyphenation_trie.proofs.HeldNodes.{trie_held}
use Rattle.hyphenation_trie.proofs.growing.Growing.invariant.Goals as goal

pub returns : goal.returns
returns g c = rw (← c.self.view_is) (trie_held _ _ _ _ _ c.self.inside.entries.items c.self.invariant.0)
