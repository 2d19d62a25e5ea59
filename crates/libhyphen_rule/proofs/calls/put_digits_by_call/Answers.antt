use Rattle.std.proofs.Common.{◌≡◌, ◌∙◌, rules, sym, take, drop, [], w32, to_z, of_z, subst, List, ℕ}
use Rattle.std.specs.Prelude.{ℤ}
use Rattle.libhyphen_files.specs.Bytes.{before_nul}
use Rattle.libhyphen_rule.specs.Calls.{SomeMayCount, found_by_call, least_of, at_least_two, part_minima}
use Rattle.libhyphen_rule.specs.Minima.{digits_but, left_goes, right_goes}
use Rattle.libhyphen_rule.specs.Parts.{Found, PartMinima, word_found}
use Rattle.libhyphen_rule.specs.Private.PlainWords.{BeginsNone, HasNoDigits, FindsPlain}
use Rattle.libhyphen_rule.proofs.PlainCalls.{plain_left, plain_right}
use Rattle.libhyphen_rule.proofs.calls.put_digits_by_call.Goals as goal

pub read_word-requires-clause-word : goal.read_word-requires-clause-word
read_word-requires-clause-word c =
    let word : c.split_at.result.0.now ≡ take c.args.size c.args.text.now = search rules in
    subst (λ (xs : List ℕ). HasNoDigits xs) (sym word) c.requires.word

pub read_word-requires-clause-none : goal.read_word-requires-clause-none
read_word-requires-clause-none c not =
    let word : c.split_at.result.0.now ≡ take c.args.size c.args.text.now = search rules in
    subst (λ (xs : List ℕ). BeginsNone c.args.dictionary.now.first_level.patterns xs) (sym word) (c.requires.none not)

pub returns-clause-found : goal.returns-clause-found
unfolding found_by_call
returns-clause-found c done =
    let rules_now = c.args.dictionary.now in
    let given = c.least_of-least.result in
    let least = least_of rules_now.first_level.minima c.args.minima in
    let as_given : (least : ℤ) → ℤ = λ least. to_z w32 (of_z w32 least) in
    let passed : PartMinima = record { left = as_given given.compound_left; right = as_given given.compound_right } in
    let digits = c.read_word.new.digits in
    let told : FindsPlain (word_found rules_now passed c.split_at.result.0.now c.split_at.result.1.now) digits =
    c.read_word.ensures.found c.if-not-read_word.false in
    let passed_left : as_given given.compound_left ≡ least.compound_left = search rules in
    let passed_right : as_given given.compound_right ≡ least.compound_right = search rules in
    let word : c.split_at.result.0.now ≡ take c.args.size c.args.text.now = search rules in
    let behind : c.split_at.result.1.now ≡ drop c.args.size c.args.text.now = search rules in
    let utf8 : c.is_utf8-utf8.result ≡ rules_now.utf8 = search rules in
    let text : c.args.seen.now ≡ before_nul c.args.text.now = c.requires.seen in
    let least_left : as_given c.at_least_two-left.result ≡ at_least_two least.left = search rules in
    let least_right : as_given c.at_least_two-right.result ≡ at_least_two least.right = search rules in
    let found : FindsPlain (word_found rules_now (part_minima least) (take c.args.size c.args.text.now) (drop c.args.size c.args.text.now)) digits =
    subst (λ (f : Found). FindsPlain f digits)
    (λ i. word_found rules_now (record { left = passed_left i; right = passed_right i }) (word i) (behind i)) told in
    let left : c.take_left.new.digits ≡ digits_but (left_goes rules_now.utf8 (at_least_two least.left) (before_nul c.args.text.now) []) digits =
    c.take_left.ensures.digits
    ∙ (λ i. digits_but (left_goes (utf8 i) (least_left i) (text i) []) digits) in
    let right : c.take_right.new.digits
    ≡ digits_but (right_goes rules_now.utf8 (at_least_two least.right) (take c.args.size c.args.text.now) (before_nul c.args.text.now) []) c.take_left.new.digits =
    c.take_right.ensures.digits
    ∙ (λ i. digits_but (right_goes (utf8 i) (least_right i) (word i) (text i) []) c.take_left.new.digits) in
    plain_right rules_now.utf8 (at_least_two least.right) (take c.args.size c.args.text.now) (before_nul c.args.text.now) _ _ _
    (plain_left rules_now.utf8 (at_least_two least.left) (before_nul c.args.text.now) _ _ _ found left) right

pub returns-then-not-read_word-clause-none : goal.returns-then-not-read_word-clause-none
returns-then-not-read_word-clause-none c = λ _.
    let word : c.split_at.result.0.now ≡ take c.args.size c.args.text.now = search rules in
    subst (λ (xs : List ℕ). SomeMayCount c.args.dictionary.now xs) word (c.read_word.ensures.none c.if-not-read_word.true)
