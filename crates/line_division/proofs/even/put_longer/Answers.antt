use Rattle.std.proofs.Common.{◌≡◌, subst, arith}
use Rattle.line_division.specs.Private.Best.{runs}
use Rattle.line_division.specs.Private.Problem.{AreBestOf}
use Rattle.line_division.proofs.even.put_longer.Goals as goal

pub returns : goal.returns
returns c =
    let problem = c.args.begin.problem in
    let all : c.loop-run.run ≡ runs problem.ladder = omega (arith, c.loop-run-test.false, c.runs.ensures.value, c.loop-run.invariant.known) in
    subst (AreBestOf problem c.loop-run.choices c.args.begin.start) all c.loop-run.invariant.best
