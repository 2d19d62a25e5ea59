use Rattle.std.proofs.Common.{◌∙◌, sym, Some, None}
use Rattle.hyphenation_grammar.proofs.LaterTokens.{whole_none, whole_some}
use Rattle.hyphenation_grammar.proofs.tokens.plain_token.Goals as goal

pub returns-then-not-has_good_escapes : goal.returns-then-not-has_good_escapes
returns-then-not-has_good_escapes c = whole_none c.args.token.now c.requires.not_empty c.requires.no_comma (sym c.has_good_escapes.ensures ∙ c.if-not-has_good_escapes.true)

pub returns-in-Some : goal.returns-in-Some
returns-in-Some c = whole_some c.args.token.now (Some c.in-Some.place) c.requires.not_empty c.requires.no_comma (sym c.has_good_escapes.ensures ∙ c.if-not-has_good_escapes.false) c.in-Some.ensures

pub returns-in-None : goal.returns-in-None
returns-in-None c = whole_some c.args.token.now None c.requires.not_empty c.requires.no_comma (sym c.has_good_escapes.ensures ∙ c.if-not-has_good_escapes.false) c.in-None.ensures
