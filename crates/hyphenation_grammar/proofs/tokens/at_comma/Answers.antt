use Rattle.hyphenation_grammar.proofs.TokenParts as parts
use Rattle.hyphenation_grammar.proofs.tokens.at_comma.Goals as goal

pub returns-then-commas-eq0 : goal.returns-then-commas-eq0
returns-then-commas-eq0 c = rw c.if-commas-eq0.true (parts.none_left c.args.text.now)

pub returns-in-None : goal.returns-in-None
returns-in-None c = parts.unparted c.args.commas c.args.text.now c.in-None.ensures

pub returns-in-Some : goal.returns-in-Some
returns-in-Some c = parts.parted c.args.commas c.args.text.now c.in-Some.at c.if-commas-eq0.false c.in-Some.ensures
