use Rattle.libhyphen_rule.proofs.ClosedPatterns.{read_alike}
use Rattle.libhyphen_rule.proofs.laws.closed_patterns_read_alike.Goals as goal

pub returns : goal.returns
returns c = read_alike
