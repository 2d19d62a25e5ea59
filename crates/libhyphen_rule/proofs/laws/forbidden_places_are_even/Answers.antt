use Rattle.libhyphen_rule.proofs.ForbiddenPlaces.{forbidden_even}
use Rattle.libhyphen_rule.proofs.laws.forbidden_places_are_even.Goals as goal

pub returns : goal.returns
returns c = forbidden_even
