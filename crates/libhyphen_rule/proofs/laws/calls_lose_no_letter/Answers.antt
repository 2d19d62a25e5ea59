use Rattle.libhyphen_rule.proofs.UnchangingCalls.{none_lost}
use Rattle.libhyphen_rule.proofs.laws.calls_lose_no_letter.Goals as goal

pub returns : goal.returns
returns c = none_lost
