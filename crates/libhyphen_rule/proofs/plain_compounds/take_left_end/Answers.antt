use Rattle.std.proofs.Common.{◌≡◌, w32, to_z, of_z, [], rules, ap, ◌∙◌}
use Rattle.libhyphen_rule.specs.Found.{asked_in, minima_of}
use Rattle.libhyphen_rule.specs.Minima.{digits_but, left_goes}
use Rattle.libhyphen_rule.specs.Private.PlainCompounds.{plain_found}
use Rattle.libhyphen_rule.proofs.WordsFound.{left_kept}
use Rattle.libhyphen_rule.proofs.PlainCompounds.{left_plain}
use Rattle.libhyphen_rule.proofs.plain_compounds.take_left_end.Goals as goal

pub returns-then-not-asked-clause-digits : goal.returns-then-not-asked-clause-digits
returns-then-not-asked-clause-digits c = λ parts.
    let least : to_z w32 (of_z w32 c.args.levels.left) ≡ c.args.levels.left = search rules in
    left_plain c.args.levels.dictionary.now.utf8 (minima_of c.args.levels) (asked_in c.args.asked) c.args.digits.now c.take_left.new.digits parts
    c.if-not-asked.true (c.requires.behind c.if-not-asked.true) c.take_left.auto.digits
    (c.take_left.ensures.digits
    ∙ ap (λ z. digits_but (left_goes c.is_utf8.result z c.before_nul.result.now []) c.args.digits.now) least
    ∙ ap (λ u. digits_but (left_goes u c.args.levels.left c.before_nul.result.now []) c.args.digits.now) c.is_utf8.ensures
    ∙ ap (λ t. digits_but (left_goes c.args.levels.dictionary.now.utf8 c.args.levels.left t []) c.args.digits.now) c.before_nul.ensures)

pub returns-else-not-asked-clause-digits : goal.returns-else-not-asked-clause-digits
returns-else-not-asked-clause-digits c = λ parts.
    left_kept c.args.levels.dictionary.now.utf8 (minima_of c.args.levels) (asked_in c.args.asked) (plain_found c.args.digits.now parts) c.if-not-asked.false
