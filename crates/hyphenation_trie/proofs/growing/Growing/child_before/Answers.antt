use Rattle.std.proofs.Common.{◌≡◌, ℕ, slice_index, map, sym, subst, ◌∙◌, arith}
use Rattle.std.proofs.lemmas.List.{length-map, get_or_default}
use Rattle.hyphenation_trie.specs.Private.Chains.{IsLastBelow}
use Rattle.hyphenation_trie.specs.Private.Links.{parent_of}
use Rattle.hyphenation_trie.specs.Private.States.{froms_by}
use Rattle.hyphenation_trie.proofs.HeldNodes.{node_held}
use Rattle.hyphenation_trie.proofs.Siblings.{last_is, parent_is}
use Rattle.hyphenation_trie.proofs.growing.Growing.child_before.Goals as goal

pub index-requires : goal.index-requires
index-requires g c =
    let asked = rw (← c.self.view_is) at c.requires in
    let held = c.self.invariant.0 in
    let froms = froms_by c.self.inside.children.parents.items c.self.inside.children.bytes.items in
    omega (arith, (node_held _ _ _ _ _ _ c.args.child held asked).3, held.growing.chained.lengths, length-map froms parent_of, c.self.inside.children.before.ok.0)

pub returns : goal.returns
returns g c =
    let asked = rw (← c.self.view_is) at c.requires in
    let held = c.self.invariant.0 in
    let befores = c.self.inside.children.before.items in
    let froms = froms_by c.self.inside.children.parents.items c.self.inside.children.bytes.items in
    let lt = (node_held _ _ _ _ _ _ c.args.child held asked).3 in
    let count = length-map froms parent_of in
    let read : slice_index befores c.args.child ≡ c.index.result.now = sym (c.index.ensures ∙ get_or_default befores c.args.child c.index.result.now 0 (omega (arith, lt, held.growing.chained.lengths, count))) in
    rw (← c.self.view_is) (λ node byte ln e.
    let parent = parent_is froms _ _ held.growing c.args.child node byte asked ln e in
    let last = held.growing.chained.befores c.args.child parent.0 (omega (arith, lt, count)) in
    last_is froms _ _ held.growing _ _ node c.args.child c.index.result.now ln (omega (arith, asked)) (
    subst (λ (x : ℕ). IsLastBelow (map parent_of froms) node c.args.child x) read (subst (λ (p : ℕ). IsLastBelow (map parent_of froms) p c.args.child (slice_index befores c.args.child)) parent.1 last)))
