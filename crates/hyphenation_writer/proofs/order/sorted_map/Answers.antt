use Rattle.hyphenation_writer.proofs.TextMapOrder.{put_none, put_step}
use Rattle.hyphenation_writer.proofs.order.sorted_map.Goals as goal

pub loop-index-init : goal.loop-index-init
loop-index-init g c = put_none c.args.pairs.now c.new-found.result.entries c.new-found.ensures.empty

pub loop-index-preserved : goal.loop-index-preserved
loop-index-preserved g c =
    put_step c.args.pairs.now c.loop-index.found.entries c.insert.new.self.entries c.loop-index.index c.index-pairs-pairs.result c.index-pairs-pairs-in-loop-index.result c.loop-index-test.true c.in_ok-insert.ensures.entries c.loop-index.invariant
