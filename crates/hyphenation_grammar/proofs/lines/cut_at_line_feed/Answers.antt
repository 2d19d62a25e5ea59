use Rattle.std.proofs.Common.{arith}
use Rattle.hyphenation_grammar.proofs.LinesSplit.{line_more, not_empty, ended-utf8}
use Rattle.hyphenation_grammar.proofs.lines.cut_at_line_feed.Goals as goal

pub returns-clause-first : goal.returns-clause-first
returns-clause-first c = (line_more c.args.text.now c.args.at c.requires (not_empty c.args.text.now c.args.at c.requires)).0

pub returns-clause-shorter : goal.returns-clause-shorter
returns-clause-shorter c = (line_more c.args.text.now c.args.at c.requires (not_empty c.args.text.now c.args.at c.requires)).1

pub returns-clause-utf8 : goal.returns-clause-utf8
returns-clause-utf8 c = ended-utf8 10 (omega arith) c.args.text.now c.args.at c.requires
