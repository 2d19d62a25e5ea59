use Rattle.std.proofs.Common.{◌∙◌, ap, cond, take, List, ℕ}
use Rattle.libhyphen_rule.specs.Words.{digits_of_characters}
use Rattle.libhyphen_rule.proofs.PlainCalls.{plain_is}
use Rattle.libhyphen_rule.proofs.calls.short_digits.Goals as goal

pub returns-clause-answer : goal.returns-clause-answer
returns-clause-answer c =
    let text = c.args.text.now in
    let digits : List ℕ = c.apply_no_hyphen_short.new.digits in
    plain_is c.args.dictionary.now c.args.minima text c.args.size c.find_short.new.digits digits (take c.select_characters.result c.select_characters.new.digits)
    c.in_ok-word.ensures.whole c.in_ok-word.ensures.found c.apply_no_hyphen_short.ensures
    (c.select_characters.ensures.digits
    ∙ ap (λ utf8. cond {A = List ℕ} utf8 (digits_of_characters (take c.args.size text) digits) digits) c.is_utf8.ensures)
