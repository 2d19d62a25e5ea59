use Rattle.std.proofs.Common.{◌∙◌, [], ap, Some, cond, nat_eq}
use Rattle.std.specs.Prelude.{unwrap_or}
use Rattle.std.specs.Cmp.Lexicographic.{pointwise}
use Rattle.hyphenation_trie.specs.Trie.{entries_of_key, entries_of_node}
use Rattle.hyphenation_trie.specs.Private.Trie.{with_entries}
use Rattle.hyphenation_trie.proofs.SharedEntries.{entries_stay, some_is, some_there}
use Rattle.hyphenation_trie.proofs.TrieNodes.{key_at-with, begins-insert}
use Rattle.hyphenation_trie.proofs.growing.Growing.insert_as.Goals as goal

pub share_entries-had-requires-clause-like : goal.share_entries-had-requires-clause-like
share_entries-had-requires-clause-like g c =
    let stays = entries_stay c.args.self.now c.path.new.self c.args.like (entries_of_node c.args.self.now c.args.like) c.invariant.ensures c.invariant-2.ensures c.in_ok-node.ensures.keys_stay c.in_ok-node.ensures.nodes (some_is _ c.requires.like) in
    some_there _ (entries_of_node c.args.self.now c.args.like) stays

pub returns-clause-key_set : goal.returns-clause-key_set
returns-clause-key_set g c = λ q.
    let stays = entries_stay c.args.self.now c.path.new.self c.args.like (entries_of_node c.args.self.now c.args.like) c.invariant.ensures c.invariant-2.ensures c.in_ok-node.ensures.keys_stay c.in_ok-node.ensures.nodes (some_is _ c.requires.like) in
    let set = c.share_entries-had.ensures.set ∙ ap (λ es. with_entries c.path.new.self c.in_ok-node.node es) (ap (λ o. unwrap_or o []) stays) in
    ap (λ t. entries_of_key t q) set
    ∙ key_at-with c.path.new.self c.in_ok-node.node (entries_of_node c.args.self.now c.args.like) c.args.key.now q c.invariant-2.ensures c.in_ok-node.ensures.node.0 c.in_ok-node.ensures.node.1
    ∙ ap (cond (pointwise nat_eq c.args.key.now q) (Some (entries_of_node c.args.self.now c.args.like))) (c.in_ok-node.ensures.keys_stay q)

pub returns-clause-begins : goal.returns-clause-begins
returns-clause-begins g c = λ begins. rw c.share_entries-had.ensures.set (
    begins-insert c.args.self.now c.path.new.self c.args.key.now c.in_ok-node.node _ c.in_ok-node.ensures.keys_stay c.in_ok-node.ensures.adds c.invariant-2.ensures c.in_ok-node.ensures.node.0 c.in_ok-node.ensures.node.1 begins)

pub returns-clause-nodes : goal.returns-clause-nodes
returns-clause-nodes g c = rw c.share_entries-had.ensures.set c.in_ok-node.ensures.nodes
