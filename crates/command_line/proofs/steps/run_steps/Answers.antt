use Rattle.command_line.specs.Endings.{Refuses, Fails}
use Rattle.command_line.specs.Reading.{as_refused}
use Rattle.command_line.specs.declared.failure.Failure.TheVariants as failed
use Rattle.command_line.proofs.steps.run_steps.Goals as goal

pub returns-in-Err-Bad-clause-ended : goal.returns-in-Err-Bad-clause-ended
returns-in-Err-Bad-clause-ended g c =
    let ends = rw c.in-Err-Bad.field-0-is at c.in-Err-Bad.ensures.refused in
    (Refuses (as_refused c.in-Err-Bad.bad), c.report_bad_argument.ensures, ends c.args.store.now c.args.input.now c.args.output.now)

pub returns-in-Err-Memory-clause-ended : goal.returns-in-Err-Memory-clause-ended
returns-in-Err-Memory-clause-ended g c =
    let ends = rw c.in-Err-Memory.field-0-is at c.in-Err-Memory.ensures.refused in
    (Fails failed.Memory, c.report.ensures, ends c.args.store.now c.args.input.now c.args.output.now)
