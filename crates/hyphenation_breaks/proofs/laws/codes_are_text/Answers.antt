use Rattle.hyphenation_breaks.proofs.LanguageCodes.{is_code-utf8}
use Rattle.hyphenation_breaks.proofs.laws.codes_are_text.Goals as goal

pub returns : goal.returns
returns c = λ code h. is_code-utf8 code h
