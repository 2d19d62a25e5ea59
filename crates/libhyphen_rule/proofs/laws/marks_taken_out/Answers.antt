use Rattle.libhyphen_rule.proofs.MarksOut.{taken_out}
use Rattle.libhyphen_rule.proofs.laws.marks_taken_out.Goals as goal

pub returns : goal.returns
returns c = taken_out
