use Rattle.std.proofs.Common.{sym, ◌∙◌}
use Rattle.libhyphen_rule.proofs.PlacesOfParts.{any_here}
use Rattle.libhyphen_rule.proofs.parts.has_change.Goals as goal

pub returns-then-here : goal.returns-then-here
returns-then-here c = any_here c.args.changes.now c.loop-i.i c.loop-i-test.true (sym c.is_some-here.ensures ∙ c.if-here.true)
