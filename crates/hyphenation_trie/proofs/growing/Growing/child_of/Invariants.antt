use Rattle.hyphenation_trie.specs.Private.Growing.{IsSought}
use Rattle.hyphenation_trie.specs.Private.States.{froms_by}
use Rattle.hyphenation_trie.proofs.growing.Growing.child_of.Given as goal

abbrev pub invariant-loop-child : goal.invariant-loop-child
invariant-loop-child g l = IsSought (froms_by l.self-inside.children.parents.items l.self-inside.children.bytes.items) l.node l.byte l.child

abbrev pub decreases-loop-child : goal.decreases-loop-child
decreases-loop-child g l = l.child
