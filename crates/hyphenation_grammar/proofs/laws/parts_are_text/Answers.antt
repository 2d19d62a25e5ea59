use Rattle.hyphenation_grammar.proofs.AsciiSplits.{split_ascii, split-utf8, part-utf8}
use Rattle.hyphenation_grammar.proofs.laws.parts_are_text.Goals as goal

pub returns-clause-around_ascii : goal.returns-clause-around_ascii
returns-clause-around_ascii c = λ before b after small u. split_ascii before b after small u

pub returns-clause-pieces : goal.returns-clause-pieces
returns-clause-pieces c = λ b text small u. split-utf8 b text small u

pub returns-clause-token_parts : goal.returns-clause-token_parts
returns-clause-token_parts c = λ i token u. part-utf8 4 i token u
