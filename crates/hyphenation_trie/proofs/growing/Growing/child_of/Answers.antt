use Rattle.std.proofs.lemmas.Grind.{common_steps}
use Rattle.std.proofs.Common.{◌≡◌, ◌<◌, ℕ, ◌∙◌, refl, sym, ap, arith, List, length, get_or, slice_index, Some, None}
use Rattle.std.proofs.lemmas.List.{length-map, get_or_default}
use Rattle.hyphenation_trie.specs.Private.Growing.{IsSought}
use Rattle.hyphenation_trie.specs.Private.Links.{parent_of, byte_of}
use Rattle.hyphenation_trie.specs.Private.States.{IsHeld, froms_by}
use Rattle.hyphenation_trie.specs.declared.state.State.{State}
use Rattle.hyphenation_trie.proofs.FrozenTrie.{byte_here}
use Rattle.hyphenation_trie.proofs.GrowingNodes.{sought-start, sought-next, sought-past, sought-found, sought-none, sought-byte, other_byte}
use Rattle.hyphenation_trie.proofs.HeldNodes.{node_held}
use Rattle.hyphenation_trie.proofs.TrieNodes.{length-texts_of}
use Rattle.hyphenation_trie.proofs.Siblings.{above_zero}
use Rattle.hyphenation_trie.proofs.growing.Growing.child_of.Goals as goal

-- the node at hand is the child of the node at the byte that is read
at_byte : (parents bytes : List ℕ) (states : List State) (lasts befores : List ℕ) (bound node byte child read : ℕ) → IsHeld parents bytes states lasts befores bound → IsSought (froms_by parents bytes) node byte child → 0 < child
    → read ≡ get_or bytes child read → get_or (froms_by parents bytes) child None ≡ Some (node, read)
at_byte parents bytes states lasts befores bound node byte child read held at pos is =
    let froms = froms_by parents bytes in
    let within = (at.here pos).0 in
    let lt = node_held parents bytes states lasts befores bound child held (omega (arith, length-texts_of froms)) in
    let same : byte_of (get_or froms child None) ≡ read = byte_here parents bytes child held.bytes_from held.bytes_of within ∙ sym (is ∙ get_or_default bytes child read 0 lt.1) in
    sought-byte froms lasts befores node byte child (get_or froms child None) held.growing at pos refl ∙ ap (λ (x : ℕ). Some (node, x)) same

held-back : (parents bytes : List ℕ) (states : List State) (lasts befores : List ℕ) (bound i : ℕ) → IsHeld parents bytes states lasts befores bound → i < length (froms_by parents bytes) → i < length befores
held-back parents bytes states lasts befores bound i held lt = omega (arith, held.growing.chained.lengths, length-map (froms_by parents bytes) parent_of)

pub index-child-requires : goal.index-child-requires
index-child-requires g c =
    let asked = rw (← c.self.view_is) at c.requires in
    omega (arith, (node_held _ _ _ _ _ _ c.args.node c.self.invariant.0 asked).4, c.self.inside.children.last.ok.0)

pub index-at-requires : goal.index-at-requires
index-at-requires g c =
    let pos = above_zero c.loop-child.child c.loop-child-test.true in
    let froms = froms_by c.self.inside.children.parents.items c.self.inside.children.bytes.items in
    omega (arith, (node_held _ _ _ _ _ _ c.loop-child.child c.self.invariant.0 (omega (arith, length-texts_of froms, (c.loop-child.invariant.here pos).0))).1, c.self.inside.children.bytes.ok.0)

pub loop-child-init : goal.loop-child-init
loop-child-init g c =
    let asked = rw (← c.self.view_is) at c.requires in
    let lt = node_held _ _ _ _ _ _ c.args.node c.self.invariant.0 asked in
    sought-start _ _ _ c.args.node c.args.byte c.index-child.result.now c.self.invariant.0.growing lt.3 (c.index-child.ensures ∙ get_or_default c.self.inside.children.last.items c.args.node c.index-child.result.now 0 lt.4)

pub returns-then-at-byte-clause-found : goal.returns-then-at-byte-clause-found
returns-then-at-byte-clause-found g c =
    let pos = above_zero c.loop-child.child c.loop-child-test.true in
    rw (← c.self.view_is) (
    sought-found _ _ _ c.args.node c.args.byte c.loop-child.child c.self.invariant.0.growing c.loop-child.invariant pos
    (at_byte _ _ _ _ _ _ c.args.node c.args.byte c.loop-child.child c.index-at.result.now c.self.invariant.0 c.loop-child.invariant pos c.index-at.ensures ∙ ap (λ (x : ℕ). Some (c.args.node, x)) c.if-at-byte.true))

pub loop-child-preserved : goal.loop-child-preserved
loop-child-preserved g c =
    let pos = above_zero c.loop-child.child c.loop-child-test.true in
    let here = (c.loop-child.invariant.here pos).0 in
    (sought-next _ _ _ c.args.node c.args.byte c.loop-child.child c.index-child-in-loop-child.result.now c.self.invariant.0.growing c.loop-child.invariant pos
    (λ e. c.if-at-byte.false (other_byte c.args.node _ c.args.byte
    (sym (at_byte _ _ _ _ _ _ c.args.node c.args.byte c.loop-child.child c.index-at.result.now c.self.invariant.0 c.loop-child.invariant pos c.index-at.ensures) ∙ e)))
    (c.index-child-in-loop-child.ensures ∙ get_or_default c.self.inside.children.before.items c.loop-child.child c.index-child-in-loop-child.result.now 0 (held-back _ _ _ _ _ _ c.loop-child.child c.self.invariant.0 here))).1

pub returns-then-self-node-clause-none : goal.returns-then-self-node-clause-none
returns-then-self-node-clause-none g c =
    let asked = rw (← c.self.view_is) at c.requires in
    let pos = above_zero c.loop-child.child c.loop-child-test.true in
    let held = c.self.invariant.0 in
    let parents = c.self.inside.children.parents.items in
    let bytes = c.self.inside.children.bytes.items in
    let within = (c.loop-child.invariant.here pos).0 in
    let lt = node_held _ _ _ _ _ _ c.loop-child.child held (omega (arith, length-texts_of (froms_by parents bytes), within)) in
    let read : c.index-at.result.now ≡ slice_index bytes c.loop-child.child = c.index-at.ensures ∙ get_or_default bytes c.loop-child.child c.index-at.result.now 0 lt.1 in
    let past = sought-past parents bytes c.self.inside.children.in_order_from c.args.node c.args.byte c.loop-child.child held.parents_from held.bytes_from held.bytes_of c.self.invariant.1 (omega (arith, c.if-self-node.true)) c.loop-child.invariant pos (omega (arith, read, c.if-at-byte-2.true)) in
    rw (← c.self.view_is) (sought-none _ _ _ c.args.node c.args.byte 0 held.growing past refl asked)

pub returns-clause-none : goal.returns-clause-none
returns-clause-none g c =
    let asked = rw (← c.self.view_is) at c.requires in
    rw (← c.self.view_is) (sought-none _ _ _ c.args.node c.args.byte c.loop-child.child c.self.invariant.0.growing c.loop-child.invariant c.loop-child-test.false asked)

pub index-child-requires-in-loop-child : goal.index-child-requires-in-loop-child
index-child-requires-in-loop-child g c = grind (arith, common_steps)

pub loop-child-smaller : goal.loop-child-smaller
loop-child-smaller g c = grind (arith, common_steps)
