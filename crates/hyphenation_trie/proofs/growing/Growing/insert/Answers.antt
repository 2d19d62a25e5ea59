use Rattle.std.proofs.Common.{◌∙◌, ap, Some, cond, nat_eq}
use Rattle.std.specs.Cmp.Lexicographic.{pointwise}
use Rattle.hyphenation_trie.specs.Trie.{entries_of_key}
use Rattle.hyphenation_trie.proofs.TrieNodes.{key_at-with, begins-insert}
use Rattle.hyphenation_trie.proofs.growing.Growing.insert.Goals as goal

pub returns-clause-key_set : goal.returns-clause-key_set
returns-clause-key_set g c = λ q.
    ap (λ t. entries_of_key t q) c.in_ok-had.ensures.set
    ∙ key_at-with c.path.new.self c.in_ok-node.node c.args.entries.now.items c.args.key.now q c.invariant.ensures c.in_ok-node.ensures.node.0 c.in_ok-node.ensures.node.1
    ∙ ap (cond (pointwise nat_eq c.args.key.now q) (Some c.args.entries.now.items)) (c.in_ok-node.ensures.keys_stay q)

pub returns-clause-begins : goal.returns-clause-begins
returns-clause-begins g c = λ begins. rw c.in_ok-had.ensures.set (
    begins-insert c.args.self.now c.path.new.self c.args.key.now c.in_ok-node.node c.args.entries.now.items c.in_ok-node.ensures.keys_stay c.in_ok-node.ensures.adds c.invariant.ensures c.in_ok-node.ensures.node.0 c.in_ok-node.ensures.node.1 begins)

pub returns-clause-nodes : goal.returns-clause-nodes
returns-clause-nodes g c = rw c.in_ok-had.ensures.set c.in_ok-node.ensures.nodes
