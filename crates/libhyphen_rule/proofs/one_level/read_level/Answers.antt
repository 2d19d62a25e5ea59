use Rattle.std.proofs.Common.{◌≡◌, ◌∙◌, ℕ, List, length, map, false, Option, None, ap, sym}
use Rattle.std.specs.Prelude.{replicate}
use Rattle.hyphenation_breaks.specs.Dictionary.{TextMap}
use Rattle.libhyphen_files.specs.Patterns.{Pattern}
use Rattle.libhyphen_rule.specs.OneLevel.{digits_by, digits_given_by, digit_behind, offers, changes_by, level_digits, level_changes, ChangeAt}
use Rattle.std.specs.List.{range_with_len}
use Rattle.hyphenation_dictionary.specs.Parts.{patterns_of}
use Rattle.hyphenation_trie.specs.Trie.{Tree}
use Rattle.libhyphen_rule.specs.Counting.{Counted, counted_in, framed}
use Rattle.libhyphen_rule.proofs.RaisedDigits.{all_given}
use Rattle.libhyphen_rule.proofs.PlacedChanges.{no_changes}
use Rattle.libhyphen_rule.proofs.one_level.read_level.Goals as goal

-- All patterns give digits.
all_digits : (tree : Tree Pattern) (word : List ℕ) → digits_given_by false (patterns_of tree) word ≡ digits_by (patterns_of tree) word
all_digits tree word =
    ap (λ (cs : List Counted). map (digit_behind (offers cs) (length word)) (range_with_len 0 (length word))) (all_given (counted_in (patterns_of tree) (framed word)))

pub returns-then-not-has_changes-clause-digits : goal.returns-then-not-has_changes-clause-digits
unfolding level_digits
returns-then-not-has_changes-clause-digits c =
    c.read_digits.ensures ∙ all_digits c.patterns.result.now c.args.word.now ∙ ap (λ (ps : TextMap (List Pattern)). digits_by ps c.args.word.now) c.patterns.ensures.known

pub returns-then-not-has_changes-clause-changes : goal.returns-then-not-has_changes-clause-changes
unfolding level_changes
returns-then-not-has_changes-clause-changes c =
    c.clear.ensures ∙ ap (λ (n : ℕ). replicate {A = Option ChangeAt} n None) c.requires.changes
    ∙ sym (no_changes c.args.level.now.patterns (c.has_changes.ensures c.if-not-has_changes.true) c.args.word.now)

pub returns-clause-digits : goal.returns-clause-digits
unfolding level_digits
returns-clause-digits c =
    c.read_digits.ensures ∙ all_digits c.patterns.result.now c.args.word.now ∙ ap (λ (ps : TextMap (List Pattern)). digits_by ps c.args.word.now) c.patterns.ensures.known

pub returns-clause-changes : goal.returns-clause-changes
unfolding level_changes
returns-clause-changes c =
    c.in_ok-read_changes.ensures ∙ ap (λ (ps : TextMap (List Pattern)). changes_by ps c.args.word.now) c.patterns-2.ensures.known
