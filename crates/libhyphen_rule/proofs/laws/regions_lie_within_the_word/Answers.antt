use Rattle.libhyphen_rule.proofs.Regions.{regions_within}
use Rattle.libhyphen_rule.proofs.laws.regions_lie_within_the_word.Goals as goal

pub returns : goal.returns
returns c = regions_within
