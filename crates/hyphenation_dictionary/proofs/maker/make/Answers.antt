use Rattle.std.proofs.Common.{◌≡◌, sym, subst, arith, map}
use Rattle.hyphenation_dictionary.specs.Parts.{patterns_of}
use Rattle.hyphenation_breaks.specs.Invariant.{IsPattern, IsException}
use Rattle.hyphenation_dictionary.specs.Maker.{map_of_pairs, pair_of}
use Rattle.hyphenation_dictionary.proofs.MakerInvariant.{keys_hold, words_hold}
use Rattle.hyphenation_dictionary.proofs.TextMaps.{Holds}
use Rattle.hyphenation_dictionary.proofs.maker.make.Goals as goal

pub dictionary_of-requires-clause-invariant : goal.dictionary_of-requires-clause-invariant
dictionary_of-requires-clause-invariant g c =
    let keys : patterns_of c.in_ok-trie.trie ≡ map_of_pairs (map pair_of c.args.patterns.items) = rw c.in_ok-trie.ensures c.in_ok-trie_of.ensures.keys in
    record {
      code = c.invariant.ensures;
      left = omega (arith, c.ranges.left.fits);
      right = omega (arith, c.ranges.right.fits);
      patterns = subst (Holds (IsPattern g.C.Payload.change_of)) (sym keys) (keys_hold g.C.Payload.change_of c.args.patterns.items c.requires.keys);
      exceptions = subst (Holds (IsException g.B.Break.meaning)) (sym c.in_ok-words.ensures) (words_hold g.B.Break.meaning c.args.exceptions.items c.requires.words);
    }
