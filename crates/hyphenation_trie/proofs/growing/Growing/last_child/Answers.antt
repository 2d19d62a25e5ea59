use Rattle.std.proofs.Common.{◌≡◌, ℕ, length, slice_index, map, sym, subst, ◌∙◌, arith}
use Rattle.std.proofs.lemmas.List.{length-map, get_or_default}
use Rattle.hyphenation_trie.specs.Private.Chains.{IsLastBelow}
use Rattle.hyphenation_trie.specs.Private.Links.{parent_of}
use Rattle.hyphenation_trie.specs.Private.States.{froms_by}
use Rattle.hyphenation_trie.specs.Private.Trie.{texts_of}
use Rattle.hyphenation_trie.proofs.HeldNodes.{node_held}
use Rattle.hyphenation_trie.proofs.Siblings.{last_is}
use Rattle.hyphenation_trie.proofs.TrieNodes.{length-texts_of}
use Rattle.hyphenation_trie.proofs.growing.Growing.last_child.Goals as goal

pub index-requires : goal.index-requires
index-requires g c =
    let asked = rw (← c.self.view_is) at c.requires in
    omega (arith, (node_held _ _ _ _ _ _ c.args.node c.self.invariant.0 asked).4, c.self.inside.children.last.ok.0)

pub returns : goal.returns
returns g c =
    let asked = rw (← c.self.view_is) at c.requires in
    let held = c.self.invariant.0 in
    let lasts = c.self.inside.children.last.items in
    let froms = froms_by c.self.inside.children.parents.items c.self.inside.children.bytes.items in
    let lt = (node_held _ _ _ _ _ _ c.args.node held asked).4 in
    let count : length (map parent_of froms) ≡ length (texts_of froms) = length-map froms parent_of ∙ sym (length-texts_of froms) in
    let last = subst (λ (n : ℕ). IsLastBelow (map parent_of froms) c.args.node n (slice_index lasts c.args.node)) count (held.growing.chained.lasts c.args.node lt) in
    let read : slice_index lasts c.args.node ≡ c.index.result.now = sym (c.index.ensures ∙ get_or_default lasts c.args.node c.index.result.now 0 lt) in
    rw (← c.self.view_is) (last_is froms _ _ held.growing _ _ c.args.node (length (texts_of froms)) c.index.result.now asked (omega arith) (subst (λ (x : ℕ). IsLastBelow (map parent_of froms) c.args.node (length (texts_of froms)) x) read last))
