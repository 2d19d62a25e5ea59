use Rattle.hyphenation.proofs.ScoreLine.{value_after}
use Rattle.hyphenation.proofs.engine.line_of.Goals as goal

pub loop-index-preserved : goal.loop-index-preserved
loop-index-preserved c = value_after c.args.values.now c.loop-index.index 0 _ _ c.loop-index-test.true c.loop-index.invariant c.in_ok-append_value.ensures
