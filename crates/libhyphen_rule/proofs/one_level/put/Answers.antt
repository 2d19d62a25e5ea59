use Rattle.libhyphen_rule.proofs.PlacedChanges.{put_is}
use Rattle.libhyphen_rule.proofs.one_level.put.Goals as goal

pub returns-then-place-changes : goal.returns-then-place-changes
returns-then-place-changes c = put_is c.args.changes.now c.args.place c.args.change c.if-place-ge2.true
