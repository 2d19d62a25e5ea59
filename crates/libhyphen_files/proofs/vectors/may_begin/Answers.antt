use Rattle.libhyphen_files.proofs.FirstBytes.{begins_no_key, begins_some_key, some_if, zero_if}
use Rattle.libhyphen_files.proofs.vectors.may_begin.Goals as goal

pub returns-clause-none : goal.returns-clause-none
returns-clause-none c = λ unset. begins_no_key c.args.patterns.now c.invariant.ensures c.keys_have_nodes.ensures c.keys_are_looked_up.ensures c.args.byte c.root.result c.step.result c.root.ensures.root (zero_if c.step.result unset) c.step.ensures.longest

pub returns-clause-some : goal.returns-clause-some
returns-clause-some c = λ set. begins_some_key c.args.patterns.now c.invariant.ensures c.keys_are_looked_up.ensures c.requires c.args.byte c.root.result c.step.result c.root.ensures.root (some_if c.step.result set) c.step.ensures.longest
