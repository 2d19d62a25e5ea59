use Rattle.std.proofs.Common.{sym}
use Rattle.hyphenation_grammar.proofs.WordUtf8.{word-utf8}
use Rattle.hyphenation_grammar.proofs.TokenUtf8.{keys-text}
use Rattle.hyphenation_grammar.proofs.laws.spelt_is_text.Goals as goal

pub returns-clause-text : goal.returns-clause-text
returns-clause-text c = λ written text u is. word-utf8 written text u (sym is)

pub returns-clause-key : goal.returns-clause-key
returns-clause-key c = λ version token elements u is. keys-text version token elements u is
