use Rattle.std.proofs.Common.{◌≡◌, ◌-◌, ◌∙◌, ap, refl, map, length, slice_index, arith}
use Rattle.std.proofs.lemmas.List.Edits.{length-between}
use Rattle.hyphenation_trie.specs.Trie.{node_text}
use Rattle.explanations.specs.Rows.{row_of}
use Rattle.explanations.proofs.Walks.{goes_on, ends_here, ends_with_text, walk_within}
use Rattle.explanations.proofs.pattern_rows.push_rows_from.Goals as goal

pub returns-then-depth-at-clause-rows : goal.returns-then-depth-at-clause-rows
returns-then-depth-at-clause-rows g c =
    let text = c.args.framed.now in
    ends_here c.args.automaton.now c.invariant.ensures text c.args.start c.loop-at.at c.loop-at.node c.step-next.result (slice_index text c.loop-at.at) c.keys_have_nodes.ensures (map row_of c.loop-at.rows.items)
    c.loop-at.invariant.text c.step-next.ensures.longest (omega arith) (omega arith) refl (omega arith) c.loop-at.invariant.so_far

pub returns-then-depth-at-clause-made_by_longest : goal.returns-then-depth-at-clause-made_by_longest
returns-then-depth-at-clause-made_by_longest g c = λ longest none.
    let text = c.args.framed.now in
    omega (
      arith,
      walk_within c.args.automaton.now c.invariant.ensures c.requires.begins text c.args.start c.loop-at.at c.loop-at.node longest none c.loop-at.invariant.node c.loop-at.invariant.text (omega arith),
      c.step-next.ensures.alone,
      ap length c.loop-at.invariant.text,
      length-between text c.args.start c.loop-at.at (omega arith),
    )

pub push_if_key-requires-clause-text : goal.push_if_key-requires-clause-text
push_if_key-requires-clause-text g c =
    let text = c.args.framed.now in
    goes_on c.args.automaton.now c.invariant.ensures text c.args.start c.loop-at.at c.loop-at.node c.step-next.result (slice_index text c.loop-at.at)
    c.loop-at.invariant.text c.step-next.ensures.longest (omega arith) (omega arith) refl (omega arith)

pub returns-in_err-push_if_key-clause-made_by_longest : goal.returns-in_err-push_if_key-clause-made_by_longest
returns-in_err-push_if_key-clause-made_by_longest g c = λ longest none.
    let text = c.args.framed.now in
    omega (
      arith,
      walk_within c.args.automaton.now c.invariant.ensures c.requires.begins text c.args.start c.loop-at.at c.loop-at.node longest none c.loop-at.invariant.node c.loop-at.invariant.text (omega arith),
      c.step-next.ensures.alone,
      c.push_if_key.ensures.made,
      ap length c.loop-at.invariant.text,
      length-between text c.args.start c.loop-at.at (omega arith),
    )

pub loop-at-preserved : goal.loop-at-preserved
loop-at-preserved g c =
    let text = c.args.framed.now in
    let long : length (node_text c.args.automaton.now c.loop-at.node) ≡ c.loop-at.at - c.args.start = ap length c.loop-at.invariant.text ∙ length-between text c.args.start c.loop-at.at (omega arith) in
    record {
      node = c.step-next.ensures.longest.within;
      text = goes_on c.args.automaton.now c.invariant.ensures text c.args.start c.loop-at.at c.loop-at.node c.step-next.result (slice_index text c.loop-at.at)
          c.loop-at.invariant.text c.step-next.ensures.longest (omega arith) (omega arith) refl (omega arith);
      so_far = c.in_ok-push_if_key.ensures.rows;
      made = omega (arith, c.push_if_key.ensures.made, c.step-next.ensures.most);
      reported = omega (arith, c.push_if_key.ensures.reported, c.step-next.ensures.reported);
    }

pub returns-clause-rows : goal.returns-clause-rows
returns-clause-rows g c = ends_with_text c.args.automaton.now c.args.framed.now c.args.start c.loop-at.at (map row_of c.loop-at.rows.items) (omega arith) c.loop-at.invariant.so_far

pub returns-clause-made_by_longest : goal.returns-clause-made_by_longest
returns-clause-made_by_longest g c = λ longest none.
    omega (arith, walk_within c.args.automaton.now c.invariant.ensures c.requires.begins c.args.framed.now c.args.start c.loop-at.at c.loop-at.node longest none c.loop-at.invariant.node c.loop-at.invariant.text (omega arith))
