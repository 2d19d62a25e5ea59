use Rattle.std.proofs.Common.{◌≡◌, ◌++◌, map}
use Rattle.std.specs.String.{string_bytes}
use Rattle.hyphenation_dictionary.specs.Parts.{pair_views}
use Rattle.hyphenation_dictionary.proofs.exceptions.Exceptions.pairs.Given as goal

abbrev pub invariant-loop-word : goal.invariant-loop-word
invariant-loop-word g l = pair_views l.words.items ++ map (λ x. (string_bytes x.0, x.1.items)) l.word-iterator ≡ map (λ x. (string_bytes x.0, x.1.items)) l.initial.word-iterator
