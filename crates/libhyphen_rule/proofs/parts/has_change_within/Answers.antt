use Rattle.std.proofs.Common.{◌∙◌}
use Rattle.libhyphen_rule.proofs.PlacesOfParts.{any_within}
use Rattle.libhyphen_rule.proofs.parts.has_change_within.Goals as goal

pub returns-then-count-changes : goal.returns-then-count-changes
returns-then-count-changes c = c.has_change.ensures ∙ any_within c.args.changes.now c.args.count
