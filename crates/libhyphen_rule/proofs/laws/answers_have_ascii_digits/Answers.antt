use Rattle.libhyphen_rule.proofs.AsciiDigits.{have_digits}
use Rattle.libhyphen_rule.proofs.laws.answers_have_ascii_digits.Goals as goal

pub returns : goal.returns
returns c = have_digits
