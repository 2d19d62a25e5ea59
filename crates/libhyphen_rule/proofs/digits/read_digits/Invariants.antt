use Rattle.std.proofs.Common.{◌≡◌, length, map, take}
use Rattle.hyphenation_dictionary.specs.Parts.{patterns_of}
use Rattle.hyphenation_trie.specs.Links.{IsLongest}
use Rattle.libhyphen_rule.specs.Counting.{framed, counted_up_to}
use Rattle.libhyphen_rule.specs.OneLevel.{offers, given_by}
use Rattle.libhyphen_rule.specs.Private.Digits.{HasDigits}
use Rattle.libhyphen_rule.proofs.digits.read_digits.Given as goal

abbrev pub invariant-loop-at : goal.invariant-loop-at
invariant-loop-at l = record {
  longest : IsLongest l.patterns.texts (take l.at (framed l.word)) l.node;
  len : length l.digits ≡ length l.word;
  has : HasDigits (offers (map (given_by l.plain) (counted_up_to (patterns_of l.patterns) (framed l.word) l.at))) l.digits;
}
