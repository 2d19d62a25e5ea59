use Rattle.line_division.proofs.Rows.{has_within}
use Rattle.line_division.proofs.table.kept_from.Goals as goal

pub bounds-others-at : goal.bounds-others-at
bounds-others-at c = has_within c.args.others.now c.loop-at.at c.args.run c.loop-at.invariant.has
