use Rattle.std.proofs.Common.{◌≡◌, ◌++◌, [], ◌∷◌, ℕ, ◌∙◌, slice_index, get_or, sym, ap, arith}
use Rattle.std.proofs.lemmas.List.{get_or_default}
use Rattle.hyphenation_trie.specs.Private.States.{texts_by}
use Rattle.hyphenation_trie.proofs.HeldNodes.{node_held, parents_held}
use Rattle.hyphenation_trie.proofs.growing.Growing.from.Goals as goal

pub index-requires : goal.index-requires
index-requires g c =
    let asked = rw (← c.self.view_is) at c.requires in
    omega (arith, (node_held _ _ _ _ _ _ c.args.node c.self.invariant.0 asked.1).0, c.self.inside.children.parents.ok.0)

pub index-requires-2 : goal.index-requires-2
index-requires-2 g c =
    let asked = rw (← c.self.view_is) at c.requires in
    omega (arith, (node_held _ _ _ _ _ _ c.args.node c.self.invariant.0 asked.1).1, c.self.inside.children.bytes.ok.0)

pub returns-clause-before : goal.returns-clause-before
returns-clause-before g c =
    let asked = rw (← c.self.view_is) at c.requires in
    let has = (parents_held _ _ _ _ _ _ c.self.invariant.0).each c.args.node asked.0 asked.1 in
    let lt = (node_held _ _ _ _ _ _ c.args.node c.self.invariant.0 asked.1).0 in
    omega (arith, has.0, c.index.ensures, get_or_default c.self.inside.children.parents.items c.args.node c.index.result.now 0 lt)

pub returns-clause-text : goal.returns-clause-text
returns-clause-text g c =
    let asked = rw (← c.self.view_is) at c.requires in
    let parents = c.self.inside.children.parents.items in
    let bytes = c.self.inside.children.bytes.items in
    let has = (parents_held _ _ _ _ _ _ c.self.invariant.0).each c.args.node asked.0 asked.1 in
    let held = node_held _ _ _ _ _ _ c.args.node c.self.invariant.0 asked.1 in
    let parent : slice_index parents c.args.node ≡ c.index.result.now = sym (c.index.ensures ∙ get_or_default parents c.args.node c.index.result.now 0 held.0) in
    let byte : slice_index bytes c.args.node ≡ c.index-2.result.now = sym (c.index-2.ensures ∙ get_or_default bytes c.args.node c.index-2.result.now 0 held.1) in
    rw (← c.self.view_is) (
    has.1
    ∙ ap (λ (x : ℕ). get_or (texts_by parents bytes) x [] ++ slice_index bytes c.args.node ∷ []) parent
    ∙ ap (λ (x : ℕ). get_or (texts_by parents bytes) c.index.result.now [] ++ x ∷ []) byte)
