use Rattle.std.proofs.Common.{◌≡◌, ◌∙◌, sym, ap, arith, length, map, get_or, set, ◌+◌, ◌++◌, subst, List, Some, None, Option}
use Rattle.std.specs.Prelude.{is_some}
use Rattle.std.proofs.lemmas.List.{length-append, length-map, get_or-map, map-set}
use Rattle.hyphenation_trie.specs.Private.States.{froms_by, span_in}
use Rattle.hyphenation_trie.specs.Private.Trie.{tree_of, with_entries, entries_there, IsWithin}
use Rattle.hyphenation_trie.specs.declared.state.Span.{Span}
use Rattle.hyphenation_trie.specs.declared.state.State.{State}
use Rattle.hyphenation_trie.proofs.HeldNodes.{trie_held, node_held, held_set}
use Rattle.hyphenation_trie.proofs.TrieNodes.{entries_at-here, seen-with, has_entries}
use Rattle.hyphenation_trie.proofs.growing.Growing.set_entries.Goals as goal

pub index_mut-requires : goal.index_mut-requires
index_mut-requires g c =
    let asked = rw (← c.self.view_is) at c.requires in
    omega (arith, (node_held _ _ _ _ _ _ c.args.node c.self.invariant.0 asked).2, c.self.inside.states.ok.0)

pub invariant_of-self-2 : goal.invariant_of-self-2
invariant_of-self-2 g c =
    let es = c.self.inside.entries.items in
    let xs = c.args.entries.now.items in
    let bound = length c.append_all.new.to.items in
    let grown : bound ≡ length es + length xs = ap length c.in_ok-append_all.ensures.appended ∙ length-append es xs in
    let start : c.in_ok-span.span.start ≡ length es = omega (arith, c.in_ok-span.ensures.numbers.0, c.len.ensures, c.self.inside.entries.ok.0) in
    let count : c.in_ok-span.span.count ≡ length xs = omega (arith, c.in_ok-span.ensures.numbers.1, c.len-2.ensures, c.args.entries.now.ok.0) in
    let span : IsWithin bound (Some c.in_ok-span.span) = omega (arith, start, count, grown) in
    (held_set _ _ c.self.inside.states.items _ _ (length es) bound c.args.node c.set_span.new.self (omega (arith, grown)) c.self.invariant.0 (subst (λ (s : Option Span). IsWithin bound s) (sym c.set_span.ensures.set) span), c.self.invariant.1)

pub returns-clause-set : goal.returns-clause-set
returns-clause-set g c =
    let froms = froms_by c.self.inside.children.parents.items c.self.inside.children.bytes.items in
    let states = c.self.inside.states.items in
    let es = c.self.inside.entries.items in
    let xs = c.args.entries.now.items in
    let x : State = c.set_span.new.self in
    let start : c.in_ok-span.span.start ≡ length es = omega (arith, c.in_ok-span.ensures.numbers.0, c.len.ensures, c.self.inside.entries.ok.0) in
    let count : c.in_ok-span.span.count ≡ length xs = omega (arith, c.in_ok-span.ensures.numbers.1, c.len-2.ensures, c.args.entries.now.ok.0) in
    ap (λ ys. tree_of froms (map span_in (set states c.args.node x)) ys) c.in_ok-append_all.ensures.appended
    ∙ ap (λ (ss : List (Option Span)). tree_of froms ss (es ++ xs)) (map-set span_in states c.args.node x)
    ∙ seen-with froms (map span_in states) es xs c.args.node c.in_ok-span.span.start c.in_ok-span.span.count (span_in x) c.set_span.ensures.set c.self.invariant.0.within start count
    ∙ ap (λ t. with_entries t c.args.node xs) c.self.view_is

pub returns-clause-had : goal.returns-clause-had
returns-clause-had g c =
    let asked = rw (← c.self.view_is) at c.requires in
    let froms = froms_by c.self.inside.children.parents.items c.self.inside.children.bytes.items in
    let states = c.self.inside.states.items in
    let es = c.self.inside.entries.items in
    let lt = (node_held _ _ _ _ _ _ c.args.node c.self.invariant.0 asked).2 in
    let trie = trie_held _ _ _ _ _ es c.self.invariant.0 in
    let s : State = c.index_mut.result.now in
    let read : get_or (map span_in states) c.args.node None ≡ span_in s = get_or-map span_in states c.args.node s None lt ∙ ap span_in (sym c.index_mut.ensures.value) in
    let mine : get_or (map (entries_there es) (map span_in states)) c.args.node None ≡ entries_there es (span_in s) =
    get_or-map (entries_there es) (map span_in states) c.args.node None None (omega (arith, length-map states span_in)) ∙ ap (entries_there es) read in
    rw (← c.self.view_is) (
    c.set_span.ensures.had ∙ has_entries es (span_in s)
    ∙ ap is_some (sym mine ∙ sym (entries_at-here (tree_of froms (map span_in states) es).texts (tree_of froms (map span_in states) es).entries c.args.node trie.distinct trie.lengths asked)))
