use Rattle.std.proofs.Common.{◌≡◌, map, fold}
use Rattle.std.specs.Vec.Iter.{into_iter_items}
use Rattle.hyphenation_dictionary.specs.Maker.{map_of_pairs, pair_of, with_pair}
use Rattle.hyphenation_dictionary.proofs.maker.map_of.Given as goal

abbrev pub invariant-loop-word : goal.invariant-loop-word
invariant-loop-word g l = fold with_pair l.words (map pair_of (into_iter_items l.word-iterator)) ≡ map_of_pairs (map pair_of (into_iter_items l.initial.word-iterator))
