use Rattle.hyphenation_grammar.proofs.LinesSplit.{last_line, filled, nothing-utf8}
use Rattle.hyphenation_grammar.proofs.lines.next_line.Goals as goal

pub returns-in-None-clause-first : goal.returns-in-None-clause-first
returns-in-None-clause-first c = (last_line c.args.text.now (filled _ c.is_empty.result c.is_empty.ensures c.if-is_empty.false) c.in-None.ensures).0

pub returns-in-None-clause-shorter : goal.returns-in-None-clause-shorter
returns-in-None-clause-shorter c = (last_line c.args.text.now (filled _ c.is_empty.result c.is_empty.ensures c.if-is_empty.false) c.in-None.ensures).1

pub returns-in-None-clause-utf8 : goal.returns-in-None-clause-utf8
returns-in-None-clause-utf8 c = λ u. (u, nothing-utf8 c.args.text.now)
