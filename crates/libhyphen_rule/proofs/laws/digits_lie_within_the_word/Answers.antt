use Rattle.libhyphen_rule.proofs.FoundSizes.{digits_within}
use Rattle.libhyphen_rule.proofs.laws.digits_lie_within_the_word.Goals as goal

pub returns : goal.returns
returns c = digits_within
