use Rattle.hyphenation_trie.specs.Pairs.{CanBeFound}
use Rattle.hyphenation_trie.specs.Private.Vectors.{AreKnownTo}
use Rattle.hyphenation_trie.proofs.table.vectors.known_of_all.Given as goal

abbrev pub invariant-loop-node : goal.invariant-loop-node
invariant-loop-node g l = record {
  pairs : CanBeFound l.pairs;
  known : AreKnownTo g.C.Payload.rank_of l.automaton l.order l.numbers.items l.pairs.vectors.items l.pairs.counts.items l.node-index;
}
