use Rattle.std.proofs.Common.{◌∙◌, ◌+◌, ◌<◌, sym, ap, arith, Some, length, map, subst, Option}
use Rattle.std.specs.List.{slice_range}
use Rattle.std.proofs.lemmas.List.{length-map}
use Rattle.hyphenation_trie.specs.Private.States.{span_in}
use Rattle.hyphenation_trie.specs.Private.Trie.{entries_there, IsWithin}
use Rattle.hyphenation_trie.specs.declared.state.Span.{Span}
use Rattle.hyphenation_trie.specs.declared.state.State.{State}
use Rattle.hyphenation_trie.proofs.States.{span_of_state, span_of_key, span_of_none, entries_of_state, spans_within}
use Rattle.hyphenation_trie.proofs.SharedEntries.{none_past}
use Rattle.hyphenation_trie.proofs.growing.Growing.entries_of_node.Goals as goal
use Rattle.hyphenation_trie.proofs.growing.Growing.entries_of_node.Goals.{then-node-len+else-is_key, else-node-len}

pub entries_in-requires : goal.entries_in-requires
entries_in-requires g c =
    let es = c.self.inside.entries.items in
    let states = c.self.inside.states.items in
    let state : State = c.index.result.now in
    let lt : c.args.node < length states = omega (arith, c.if-node-len.true, c.len.ensures, c.self.inside.states.ok.0) in
    let span = subst (λ (s : Option Span). IsWithin (length es) s) (span_of_state states c.args.node state lt c.index.ensures ∙ span_of_key state (sym c.is_key.ensures ∙ c.if-is_key.true)) (spans_within (length es) (map span_in states) c.self.invariant.0.within c.args.node) in
    omega (arith, span, ap length c.deref.ensures.value)

pub returns-then-is_key : goal.returns-then-is_key
returns-then-is_key g c =
    let es = c.self.inside.entries.items in
    let states = c.self.inside.states.items in
    let state : State = c.index.result.now in
    let lt : c.args.node < length states = omega (arith, c.if-node-len.true, c.len.ensures, c.self.inside.states.ok.0) in
    rw (← c.self.view_is) (
    ap (λ xs. Some xs) c.entries_in.ensures
    ∙ ap (λ xs. Some (slice_range xs state.span.start (state.span.start + state.span.count))) c.deref.ensures.value
    ∙ ap (entries_there es) (sym (span_of_key state (sym c.is_key.ensures ∙ c.if-is_key.true)))
    ∙ sym (entries_of_state es states c.args.node state lt c.index.ensures))

pub returns : goal.returns
returns g c =
    let es = c.self.inside.entries.items in
    let states = c.self.inside.states.items in
    elim c.if-node-len.branch [
      | then-node-len+else-is_key w ↦
          let state : State = w.index.result.now in
          let lt : c.args.node < length states = omega (arith, w.if-node-len.true, c.len.ensures, c.self.inside.states.ok.0) in
          rw (← c.self.view_is) (
          ap (entries_there es) (sym (span_of_none state (sym w.is_key.ensures ∙ w.if-is_key.false)))
          ∙ sym (entries_of_state es states c.args.node state lt w.index.ensures))
      | else-node-len w ↦
          rw (← c.self.view_is) (
          sym (none_past (map (entries_there es) (map span_in states)) c.args.node (omega (arith, w.if-node-len.false, c.len.ensures, c.self.inside.states.ok.0, length-map (map span_in states) (entries_there es), length-map states span_in))))
    ]
