use Rattle.std.proofs.Common.{◌≡◌, subst, arith}
use Rattle.line_division.specs.Private.Best.{runs}
use Rattle.line_division.specs.Private.Problem.{AreBestOf}
use Rattle.line_division.proofs.even.put_best_lines.Goals as goal

pub returns-else-run-runs : goal.returns-else-run-runs
returns-else-run-runs c =
    let problem = c.args.problem in
    let run = c.put_first-run in
    let all : run.result ≡ runs problem.ladder = omega (arith, c.if-run-runs.false, c.runs.ensures.value, run.ensures.known) in
    subst (AreBestOf problem run.new.choices c.args.start) all run.ensures.best
