use Rattle.libhyphen_rule.proofs.Whence.{come_from}
use Rattle.libhyphen_rule.proofs.laws.breaks_come_from_patterns.Goals as goal

pub returns : goal.returns
returns c = come_from
