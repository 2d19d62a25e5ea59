use Rattle.std.proofs.Common.{◌≡◌, ◌∙◌, ◌<◌, ◌++◌, ◌∷◌, [], ℕ, List, length, slice_index, sym, refl, subst, arith, inl, inr}
use Rattle.std.proofs.lemmas.Bool.{cases_lt}
use Rattle.hyphenation_trie.specs.Private.Chains.{IsChained}
use Rattle.hyphenation_trie.specs.Private.Growing.{IsOrderedFrom}
use Rattle.hyphenation_trie.specs.Private.States.{IsHeld, froms_by}
use Rattle.hyphenation_trie.specs.declared.state.State.{State}
use Rattle.hyphenation_trie.proofs.ChainsGrow.{next_less}
use Rattle.hyphenation_trie.proofs.FrozenTrie.{parents_by}
use Rattle.hyphenation_trie.proofs.GrowingNodes.{held-grow, earlier, ordered-anew, ordered-more}
use Rattle.hyphenation_trie.proofs.HeldNodes.{count_is, held_more, node_held, tree_more}
use Rattle.hyphenation_trie.proofs.TrieNodes.{length-texts_of}
use Rattle.hyphenation_trie.proofs.growing.Growing.grow.Goals as goal

-- the last child of each node, by parents
chained_by : (parents bytes : List ℕ) (states : List State) (lasts befores : List ℕ) (bound : ℕ) → IsHeld parents bytes states lasts befores bound → IsChained parents lasts befores
chained_by parents bytes states lasts befores bound held = subst (λ (xs : List ℕ). IsChained xs lasts befores) (parents_by parents bytes held.parents_from held.bytes_of) held.growing.chained

-- a parent comes before its children
earlier_by : (parents bytes : List ℕ) (states : List State) (lasts befores : List ℕ) (bound : ℕ) → IsHeld parents bytes states lasts befores bound → (j : ℕ) → 0 < j → j < length parents → slice_index parents j < j
earlier_by parents bytes states lasts befores bound held =
    subst (λ (xs : List ℕ). (j : ℕ) → 0 < j → j < length xs → slice_index xs j < j) (parents_by parents bytes held.parents_from held.bytes_of) (earlier (froms_by parents bytes) held.growing.from)

pub add-requires-clause-node : goal.add-requires-clause-node
add-requires-clause-node g c =
    let asked = rw (← c.self.view_is) at c.requires in
    omega (arith, length-texts_of (froms_by c.self.inside.children.parents.items c.self.inside.children.bytes.items), asked.node, c.self.invariant.0.growing.nodes)

pub add-requires-clause-last : goal.add-requires-clause-last
add-requires-clause-last g c =
    let asked = rw (← c.self.view_is) at c.requires in
    let held = c.self.invariant.0 in
    let parents = c.self.inside.children.parents.items in
    let bytes = c.self.inside.children.bytes.items in
    let lt = node_held parents bytes c.self.inside.states.items _ _ _ c.args.node held asked.node in
    omega (arith, held.bytes_of, next_less parents c.args.node (length parents) (slice_index c.self.inside.children.last.items c.args.node) (omega (arith, lt.0)) ((chained_by _ _ _ _ _ _ held).lasts c.args.node lt.4))

pub invariant_of-self-in-Ok : goal.invariant_of-self-in-Ok
invariant_of-self-in-Ok g c =
    let asked = rw (← c.self.view_is) at c.requires in
    let held = c.self.invariant.0 in
    let parents = c.self.inside.children.parents.items in
    let bytes = c.self.inside.children.bytes.items in
    let states = c.self.inside.states.items in
    let before = c.self.inside.children.before.items in
    let added = c.in-Ok.ensures in
    let count : length before ≡ length (froms_by parents bytes) = let n = count_is parents bytes states _ _ _ (length states) held refl in sym n.1 ∙ n.0 in
    let new_states = c.in_ok-push.ensures.items in
    let grown = held-grow (froms_by parents bytes) c.self.inside.children.last.items before (length before) c.args.node c.args.byte count held.growing asked.node asked.absent in
    let lasts = c.self.inside.children.last.items in
    let lt = node_held parents bytes states _ _ _ c.args.node held asked.node in
    let each : length before ≡ length parents = let n = count_is parents bytes states _ _ _ (length states) held refl in sym n.1 ∙ held.states_of in
    let apart : length lasts ≡ length parents = omega (arith, held.growing.nodes, count, each) in
    let ordered : IsOrderedFrom (parents ++ c.args.node ∷ []) (bytes ++ c.args.byte ∷ []) c.add.new.self.in_order_from = elim (cases_lt c.args.byte (slice_index bytes (slice_index lasts c.args.node))) [
      | inl out ↦ subst (IsOrderedFrom (parents ++ c.args.node ∷ []) (bytes ++ c.args.byte ∷ [])) (sym (added.out_of_order out)) (ordered-anew parents bytes c.args.node c.args.byte (length before) each (earlier_by _ _ _ _ _ _ held) lt.0)
      | inr within ↦ subst (IsOrderedFrom (parents ++ c.args.node ∷ []) (bytes ++ c.args.byte ∷ [])) (sym (added.in_order (omega arith))) (ordered-more parents bytes lasts before c.self.inside.children.in_order_from c.args.node c.args.byte (length before) each held.bytes_of apart (chained_by _ _ _ _ _ _ held) lt.0 c.self.invariant.1 (omega arith))
    ] in
    rw (new_states, added.parents, added.bytes, added.last, added.before)
    (held_more parents bytes states _ _ _ _ (length c.self.inside.entries.items) c.args.node c.args.byte c.of_no_key.result held grown c.of_no_key.ensures, ordered)

pub returns-in-Ok-clause-child_added : goal.returns-in-Ok-clause-child_added
returns-in-Ok-clause-child_added g c =
    let held = c.self.invariant.0 in
    let parents = c.self.inside.children.parents.items in
    let bytes = c.self.inside.children.bytes.items in
    let states = c.self.inside.states.items in
    let es = c.self.inside.entries.items in
    let added = c.in-Ok.ensures in
    let count = count_is parents bytes states _ _ _ (length states) held refl in
    let new_states = c.in_ok-push.ensures.items in
    rw (← c.self.view_is, new_states, added.parents, added.bytes)
    (added.child ∙ sym count.1 ∙ count.0 ∙ sym (length-texts_of (froms_by parents bytes)), tree_more parents bytes states es c.args.node c.args.byte c.of_no_key.result held c.of_no_key.ensures)
