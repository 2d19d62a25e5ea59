use Rattle.std.proofs.Common.{◌∙◌, arith}
use Rattle.std.proofs.lemmas.Grind.{common_steps}
use Rattle.hyphenation_grammar.proofs.LaterTokens.{told_at, told_nowhere}
use Rattle.hyphenation_grammar.proofs.tokens.parse_change_token.Goals as goal

pub first_number-requires : goal.first_number-requires
first_number-requires c = c.requires.several_parts

pub change_of-requires : goal.change_of-requires
change_of-requires c = c.requires.utf8

pub returns-in-None : goal.returns-in-None
returns-in-None c = told_nowhere c.args.parts.now c.in-None.ensures

pub returns-in_err-change-in-Some : goal.returns-in_err-change-in-Some
returns-in_err-change-in-Some c = grind (arith, common_steps)

pub returns-in_ok-change-in-Some : goal.returns-in_ok-change-in-Some
returns-in_ok-change-in-Some c =
    c.token_with.ensures ∙ told_at c.args.parts.now c.in-Some.place c.in_ok-change-in-Some.change c.in_ok-change-in-Some.ensures c.in-Some.ensures
