use Rattle.libhyphen_rule.proofs.KeptChanges.{changes_keep}
use Rattle.libhyphen_rule.proofs.laws.changes_keep_minima.Goals as goal

pub returns : goal.returns
returns c = changes_keep
