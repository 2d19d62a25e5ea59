use Rattle.std.proofs.Common.{◌-◌, length, arith, ◌∙◌}
use Rattle.hyphenation_grammar.proofs.LaterTokens.{not_all, first_of_all}
use Rattle.hyphenation_grammar.proofs.tokens.first_number.Goals as goal

pub returns-then-not-are_numbers : goal.returns-then-not-are_numbers
returns-then-not-are_numbers c = not_all c.args.parts.now (length c.args.parts.now - 1) _ c.are_numbers.result c.are_numbers.ensures c.if-not-are_numbers.true

pub returns : goal.returns
returns c =
    c.number_of.ensures
    ∙ first_of_all c.args.parts.now (length c.args.parts.now - 1) (length c.args.parts.now - 2) _ c.are_numbers.result (omega arith) (omega arith) c.are_numbers.ensures c.if-not-are_numbers.false
