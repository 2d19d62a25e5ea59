use Rattle.std.proofs.Common.{arith}
use Rattle.libhyphen_files.proofs.Nodes.{root_has_none, no_pattern}
use Rattle.libhyphen_files.proofs.vectors.pattern_of_node.Goals as goal
use Rattle.libhyphen_files.proofs.vectors.pattern_of_node.Goals.{then-node-eq0-via-then-node-eq0, then-node-eq0-via-else-node-eq0+then-report-node}

pub returns-then-node-eq0 : goal.returns-then-node-eq0
returns-then-node-eq0 c = elim c.then-node-eq0.branch [
  | then-node-eq0-via-then-node-eq0 w ↦ root_has_none c.args.patterns.now c.args.node (omega (arith, w.if-node-eq0.true))
  | then-node-eq0-via-else-node-eq0+then-report-node w ↦
      no_pattern c.args.patterns.now c.invariant.ensures c.args.node w.report.result c.requires w.report.ensures (λ e. w.if-report-node.true e)
]
