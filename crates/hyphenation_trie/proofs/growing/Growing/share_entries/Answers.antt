use Rattle.std.proofs.Common.{◌≡◌, ◌∙◌, sym, ap, arith, length, map, get_or, subst, List, [], ℕ, Some, None, Option}
use Rattle.std.specs.Prelude.{is_some, unwrap_or}
use Rattle.std.proofs.lemmas.List.{length-map, get_or-map, map-set}
use Rattle.hyphenation_trie.specs.Private.States.{froms_by, span_in}
use Rattle.hyphenation_trie.specs.Private.Trie.{tree_of, with_entries, entries_there, IsWithin}
use Rattle.hyphenation_trie.specs.Trie.{entries_of_node}
use Rattle.hyphenation_trie.specs.declared.state.Span.{Span}
use Rattle.hyphenation_trie.specs.declared.state.State.{State}
use Rattle.hyphenation_trie.proofs.HeldNodes.{trie_held, node_held, held_set}
use Rattle.hyphenation_trie.proofs.SharedEntries.{some_is, state_there, span_there, span_starts, seen-shared}
use Rattle.hyphenation_trie.proofs.States.{span_of_state, spans_within}
use Rattle.hyphenation_trie.proofs.TrieNodes.{entries_at-here, has_entries}
use Rattle.hyphenation_trie.proofs.growing.Growing.share_entries.Goals as goal

-- The entries of a node by its state.
abbrev held : {E : Type 0} → List E → List State → ℕ → Option (List E)
held es states like = get_or (map (entries_there es) (map span_in states)) like None

pub index-requires : goal.index-requires
index-requires g c =
    let asked = rw (← c.self.view_is) at c.requires in
    omega (arith, state_there c.self.inside.entries.items c.self.inside.states.items c.args.like (unwrap_or (held c.self.inside.entries.items c.self.inside.states.items c.args.like) []) (some_is _ asked.like), c.self.inside.states.ok.0)

pub index_mut-requires : goal.index_mut-requires
index_mut-requires g c =
    let asked = rw (← c.self.view_is) at c.requires in
    omega (arith, (node_held _ _ _ _ _ _ c.args.node c.self.invariant.0 asked.node).2, c.self.inside.states.ok.0)

pub set_span-requires : goal.set_span-requires
set_span-requires g c =
    let asked = rw (← c.self.view_is) at c.requires in
    span_starts c.self.inside.entries.items c.self.inside.states.items c.args.like c.index.result.now (unwrap_or (held c.self.inside.entries.items c.self.inside.states.items c.args.like) []) c.index.ensures (some_is _ asked.like)

pub invariant_of-self : goal.invariant_of-self
invariant_of-self g c =
    let asked = rw (← c.self.view_is) at c.requires in
    let es = c.self.inside.entries.items in
    let states = c.self.inside.states.items in
    let like : State = c.index.result.now in
    let span = span_there es states c.args.like like (unwrap_or (held c.self.inside.entries.items c.self.inside.states.items c.args.like) []) c.index.ensures (some_is _ asked.like) in
    let here : IsWithin (length es) (Some like.span) =
    subst (λ (s : Option Span). IsWithin (length es) s) (span_of_state states c.args.like like (state_there es states c.args.like (unwrap_or (held c.self.inside.entries.items c.self.inside.states.items c.args.like) []) (some_is _ asked.like)) c.index.ensures ∙ span.0) (spans_within (length es) (map span_in states) c.self.invariant.0.within c.args.like) in
    (held_set _ _ states _ _ (length es) (length es) c.args.node c.set_span.new.self (omega arith) c.self.invariant.0 (subst (λ (s : Option Span). IsWithin (length es) s) (sym c.set_span.ensures.set) here), c.self.invariant.1)

pub returns-clause-set : goal.returns-clause-set
returns-clause-set g c =
    let asked = rw (← c.self.view_is) at c.requires in
    let froms = froms_by c.self.inside.children.parents.items c.self.inside.children.bytes.items in
    let states = c.self.inside.states.items in
    let es = c.self.inside.entries.items in
    let xs = (unwrap_or (held c.self.inside.entries.items c.self.inside.states.items c.args.like) []) in
    let x : State = c.set_span.new.self in
    let like : State = c.index.result.now in
    let span = span_there es states c.args.like like xs c.index.ensures (some_is _ asked.like) in
    ap (λ (ss : List (Option Span)). tree_of froms ss es) (map-set span_in states c.args.node x)
    ∙ seen-shared froms (map span_in states) es xs c.args.node like.span (span_in x) c.set_span.ensures.set span.1
    ∙ ap (λ t. with_entries t c.args.node (entries_of_node t c.args.like)) c.self.view_is

pub returns-clause-had : goal.returns-clause-had
returns-clause-had g c =
    let asked = rw (← c.self.view_is) at c.requires in
    let froms = froms_by c.self.inside.children.parents.items c.self.inside.children.bytes.items in
    let states = c.self.inside.states.items in
    let es = c.self.inside.entries.items in
    let lt = (node_held _ _ _ _ _ _ c.args.node c.self.invariant.0 asked.node).2 in
    let trie = trie_held _ _ _ _ _ es c.self.invariant.0 in
    let s : State = c.index_mut.result.now in
    let read : get_or (map span_in states) c.args.node None ≡ span_in s = get_or-map span_in states c.args.node s None lt ∙ ap span_in (sym c.index_mut.ensures.value) in
    let mine : get_or (map (entries_there es) (map span_in states)) c.args.node None ≡ entries_there es (span_in s) =
    get_or-map (entries_there es) (map span_in states) c.args.node None None (omega (arith, length-map states span_in)) ∙ ap (entries_there es) read in
    rw (← c.self.view_is) (
    c.set_span.ensures.had ∙ has_entries es (span_in s)
    ∙ ap is_some (sym mine ∙ sym (entries_at-here (tree_of froms (map span_in states) es).texts (tree_of froms (map span_in states) es).entries c.args.node trie.distinct trie.lengths asked.node)))
