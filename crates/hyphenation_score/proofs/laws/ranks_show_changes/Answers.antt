use Rattle.hyphenation_score.proofs.RanksOfChanges.{ranks_show}
use Rattle.hyphenation_score.proofs.laws.ranks_show_changes.Goals as goal

pub returns : goal.returns
returns c = ranks_show
