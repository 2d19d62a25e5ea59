use Rattle.std.proofs.Common.{◌≡◌, ◌∙◌, rules, take, drop}
use Rattle.libhyphen_files.specs.Bytes.{before_nul}
use Rattle.libhyphen_rule.specs.Calls.{found_by_call, least_of, at_least_two, part_minima}
use Rattle.libhyphen_rule.specs.Found.{found_of}
use Rattle.libhyphen_rule.specs.Parts.{without_left, without_right, word_found}
use Rattle.libhyphen_rule.proofs.calls.found_by_call.Goals as goal

pub returns-clause-found : goal.returns-clause-found
unfolding found_by_call
returns-clause-found c =
    let rules_now = c.args.dictionary.now in
    let word = take c.args.size c.args.text.now in
    let text = before_nul c.args.text.now in
    let least = least_of rules_now.first_level.minima c.args.minima in
    let in_word : found_of c.in_ok-found.found ≡ word_found rules_now (part_minima least) word (drop c.args.size c.args.text.now) = search rules in
    let after_left : found_of c.without_left-found.result ≡ without_left rules_now.utf8 (at_least_two least.left) text (found_of c.in_ok-found.found) = search rules in
    let after_right : found_of c.without_right.result ≡ without_right rules_now.utf8 (at_least_two least.right) word text (found_of c.without_left-found.result) = search rules in
    after_right ∙ (λ i. without_right rules_now.utf8 (at_least_two least.right) word text ((after_left ∙ (λ j. without_left rules_now.utf8 (at_least_two least.left) text (in_word j))) i))
