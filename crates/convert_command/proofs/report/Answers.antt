use Rattle.std.proofs.Common.{subst, sym}
use Rattle.command_line.specs.Endings.{Tells}
use Rattle.hyphenation_breaks.specs.Borrowed.{texts_now}
use Rattle.convert_command.specs.Messages.{TellsFailure}
use Rattle.convert_command.specs.declared.Failure.{Failure}
use Rattle.convert_command.proofs.report.Goals as goal

pub returns-in-Minima-clause-told : goal.returns-in-Minima-clause-told
returns-in-Minima-clause-told g c =
    subst (λ (f : Failure). TellsFailure (texts_now c.args.paths.now) f (Tells g.E.Write.contents c.args.errors.now c.write.new.self))
    (sym c.in-Minima.is) c.write.ensures.told

pub returns-in-Writing-clause-told : goal.returns-in-Writing-clause-told
returns-in-Writing-clause-told g c =
    subst (λ (f : Failure). TellsFailure (texts_now c.args.paths.now) f (Tells g.E.Write.contents c.args.errors.now c.write-in-Writing.new.self))
    (sym c.in-Writing.is) c.write-in-Writing.ensures.told
