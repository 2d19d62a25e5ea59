use Rattle.std.proofs.Common.{◌≡◌, map, fold}
use Rattle.std.specs.Vec.Iter.{into_iter_items}
use Rattle.hyphenation_dictionary.specs.Parts.{patterns_of}
use Rattle.hyphenation_dictionary.specs.Maker.{map_of_pairs, pair_of, with_pair}
use Rattle.hyphenation_trie.specs.Trie.{EachBeginsKey}
use Rattle.hyphenation_dictionary.proofs.maker.trie_of.Given as goal

abbrev pub invariant-loop-key : goal.invariant-loop-key
invariant-loop-key g l = record {
  keys : fold with_pair (patterns_of l.trie) (map pair_of (into_iter_items l.key-iterator)) ≡ map_of_pairs (map pair_of (into_iter_items l.initial.key-iterator));
  begins : EachBeginsKey l.trie;
}
