use Rattle.libhyphen_rule.proofs.MarksIn.{no_letter_lost}
use Rattle.libhyphen_rule.proofs.laws.no_letter_is_lost.Goals as goal

pub returns : goal.returns
returns c = no_letter_lost
