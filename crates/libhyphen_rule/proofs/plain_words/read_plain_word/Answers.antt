use Rattle.std.proofs.Common.{Bool, List, Option, None, Some, ap, sym, ◌∙◌}
use Rattle.std.specs.Prelude.{IfSome}
use Rattle.hyphenation_breaks.specs.Dictionary.{TextMap}
use Rattle.libhyphen_files.specs.Patterns.{Pattern}
use Rattle.libhyphen_rule.specs.OneLevel.{changes_by, digits_by, is_odd, level_changes, level_digits}
use Rattle.libhyphen_rule.proofs.OddLanes.{none_of}
use Rattle.libhyphen_rule.proofs.PlainWords.{empty_digits, empty_plain}
use Rattle.libhyphen_rule.proofs.plain_words.read_plain_word.Goals as goal

weaker : (P Q : Bool → Type 0) (found : Option Bool) → ((odd : Bool) → P odd → Q odd) → IfSome found P → IfSome found Q
weaker P Q None follows holds = holds
weaker P Q (Some odd) follows holds = follows odd holds

pub returns-then-not-may_count-clause-digits : goal.returns-then-not-may_count-clause-digits
unfolding level_digits
returns-then-not-may_count-clause-digits c =
    empty_digits c.args.level.now.patterns c.args.word.now c.requires.word (c.may_count.ensures.none c.if-not-may_count.true)
    c.clear.new.digits (c.clear.auto.digits ∙ c.requires.digits) c.clear.ensures

pub returns-then-not-may_count-clause-changes : goal.returns-then-not-may_count-clause-changes
unfolding level_changes
returns-then-not-may_count-clause-changes c =
    empty_plain c.args.level.now.patterns c.args.word.now c.requires.word (c.may_count.ensures.none c.if-not-may_count.true)

pub returns-then-not-may_count-clause-odd : goal.returns-then-not-may_count-clause-odd
returns-then-not-may_count-clause-odd c =
    sym (none_of is_odd c.clear.new.digits (λ k next_level. ap is_odd (c.clear.ensures k next_level)))

pub returns-clause-digits : goal.returns-clause-digits
unfolding level_digits
returns-clause-digits c =
    weaker _ _ c.read_frame.result
    (λ odd is. is ∙ ap (λ (ps : TextMap (List Pattern)). digits_by ps c.args.word.now) c.patterns_with_vectors.ensures.known) c.read_frame.ensures.digits

pub returns-clause-changes : goal.returns-clause-changes
unfolding level_changes
returns-clause-changes c =
    weaker _ _ c.read_frame.result
    (λ odd none. ap (λ (ps : TextMap (List Pattern)). changes_by ps c.args.word.now) (sym c.patterns_with_vectors.ensures.known) ∙ none) c.read_frame.ensures.changes
