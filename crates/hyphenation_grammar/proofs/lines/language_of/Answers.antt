use Rattle.hyphenation_grammar.proofs.LanguageLine.{no_language}
use Rattle.hyphenation_grammar.proofs.lines.language_of.Goals as goal

pub returns-in-Err : goal.returns-in-Err
returns-in-Err c = no_language c.codes_are_text.ensures c.args.line.now c.in_ok-code.code.now c.in_ok-code.ensures c.in-Err.ensures.cases.0
