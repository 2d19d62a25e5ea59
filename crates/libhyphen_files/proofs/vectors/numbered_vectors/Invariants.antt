use Rattle.hyphenation_trie.specs.Pairs.{CanBeFound}
use Rattle.libhyphen_files.specs.Private.Vectors.{AreNodesNumbered}
use Rattle.libhyphen_files.proofs.vectors.numbered_vectors.Given as goal

abbrev pub invariant-loop-node : goal.invariant-loop-node
invariant-loop-node l = record {
  pairs : CanBeFound l.pairs;
  numbered : AreNodesNumbered l.patterns l.numbers.items l.pairs.vectors.items l.node;
}
