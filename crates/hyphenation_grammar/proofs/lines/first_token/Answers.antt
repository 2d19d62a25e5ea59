use Rattle.std.proofs.Common.{arith}
use Rattle.hyphenation_grammar.proofs.LinesSplit.{alone, ended, ended-utf8}
use Rattle.hyphenation_grammar.proofs.lines.first_token.Goals as goal

pub returns-in-None-clause-parts : goal.returns-in-None-clause-parts
returns-in-None-clause-parts c = alone 32 c.args.text.now c.in-None.ensures

pub returns-in-Some-clause-parts : goal.returns-in-Some-clause-parts
returns-in-Some-clause-parts c = ended 32 c.args.text.now c.in-Some.at c.in-Some.ensures

pub returns-in-Some-clause-utf8 : goal.returns-in-Some-clause-utf8
returns-in-Some-clause-utf8 c = ended-utf8 32 (omega arith) c.args.text.now c.in-Some.at c.in-Some.ensures
