use Rattle.std.proofs.Common.{◌≡◌, ℕ, List, length, slice_index, sym, subst, ◌∙◌, arith}
use Rattle.std.specs.Prelude.{IfSome}
use Rattle.std.proofs.lemmas.List.{get_or_default}
use Rattle.hyphenation_trie.specs.Private.Vectors.{IsKnownAt}
use Rattle.hyphenation_trie.proofs.KnownNodes.{known_all, known_more, known_start, link_known}
use Rattle.hyphenation_trie.proofs.table.vectors.known_of_all.Goals as goal

pub loop-node-init : goal.loop-node-init
loop-node-init g c = record {
  pairs = c.add.ensures.found;
  known =
      let tree = c.args.automaton.now in
      let nodes : c.count.result ≡ length tree.texts = subst (λ t. c.count.result ≡ length t.texts) c.automaton.view_is c.count.ensures in
      known_start g.C.Payload.rank_of tree c.invariant.ensures c.args.order.now c.in_ok-numbers.numbers.items c.in_ok-pairs.pairs.vectors.items c.add.new.self.vectors.items c.count.result c.in_ok-pairs.pairs.counts.items c.add.new.self.counts.items nodes
      (c.in_ok-numbers.ensures.items_if_clones_equal (λ y e. e)) c.in_ok-pairs.ensures.none.0 c.in_ok-add.ensures.vectors c.in_ok-pairs.ensures.none.1 c.in_ok-add.ensures.counts;
}

pub index-number-requires : goal.index-number-requires
index-number-requires g c = omega (arith, c.link_of-link.ensures.within, c.loop-node.invariant.known.nodes, c.loop-node.numbers.ok.0)

pub number_of-requires-clause-known : goal.number_of-requires-clause-known
number_of-requires-clause-known g c =
    let rank = g.C.Payload.rank_of in
    let tree = c.args.automaton.now in
    let l = c.loop-node in
    let link : ℕ = c.link_of-link.result in
    let known = link_known rank tree c.invariant.ensures c.args.order.now c.requires.order l.numbers.items l.pairs.vectors.items l.pairs.counts.items l.node-index link c.loop-node-test.true c.link_of-link.ensures l.invariant.known in
    let read : c.index-number.result.now ≡ slice_index l.numbers.items link = c.index-number.ensures ∙ get_or_default l.numbers.items link c.index-number.result.now 0 (omega (arith, c.link_of-link.ensures.within, l.invariant.known.nodes)) in
    subst (λ (k : ℕ). IsKnownAt rank tree l.pairs.vectors.items l.pairs.counts.items k link) (sym read) (record { within = known.within; known = known.known })

pub number_of-requires-clause-pairs : goal.number_of-requires-clause-pairs
number_of-requires-clause-pairs g c = c.loop-node.invariant.pairs

pub index_mut-requires : goal.index_mut-requires
index_mut-requires g c =
    let here = c.requires.order.within c.loop-node.node-index c.loop-node-test.true in
    omega (arith, here.1, c.loop-node.invariant.known.nodes, c.loop-node.numbers.ok.0)

pub loop-node-preserved : goal.loop-node-preserved
loop-node-preserved g c =
    let rank = g.C.Payload.rank_of in
    let tree = c.args.automaton.now in
    let l = c.loop-node in
    let vectors : List (List ℕ) = c.number_of.new.pairs.vectors.items in
    let counts : List ℕ = c.number_of.new.pairs.counts.items in
    let node : ℕ = slice_index c.args.order.now l.node-index in
    let known : IsKnownAt rank tree vectors counts c.in-Some.number node = subst (λ o. IfSome o (λ number. IsKnownAt rank tree vectors counts number node)) c.in-Some.is c.in_ok-number.ensures.known in
    record {
      pairs = c.number_of.ensures.pairs;
      known = known_more rank tree c.invariant.ensures c.args.order.now c.requires.order l.numbers.items l.pairs.vectors.items vectors l.pairs.counts.items counts l.node-index c.in-Some.number c.loop-node-test.true c.number_of.ensures.kept c.number_of.ensures.pairs.are_pairs known l.invariant.known;
    }

pub returns : goal.returns
returns g c = known_all g.C.Payload.rank_of c.args.automaton.now c.invariant.ensures c.args.order.now c.requires.order c.loop-node.numbers.items c.loop-node.pairs.vectors.items c.loop-node.pairs.counts.items c.loop-node.node-index c.loop-node-test.false c.loop-node.invariant.known
