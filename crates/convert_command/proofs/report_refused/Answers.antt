use Rattle.std.proofs.Common.{subst, sym}
use Rattle.command_line.specs.Endings.{Tells}
use Rattle.hyphenation_breaks.specs.Borrowed.{texts_now}
use Rattle.pattern_results.specs.declared.errors.ConvertError.{ConvertError}
use Rattle.pattern_results.specs.declared.errors.ConvertError.TheVariants.{Fault}
use Rattle.convert_command.specs.Messages.{TellsFailure}
use Rattle.convert_command.specs.declared.Failure.TheVariants.{Refused}
use Rattle.convert_command.proofs.report_refused.Goals as goal

pub returns-in-Fault-clause-told : goal.returns-in-Fault-clause-told
returns-in-Fault-clause-told g c =
    let told : TellsFailure (texts_now c.args.paths.now) (Refused (Fault c.in-Fault.file c.in-Fault.line c.in-Fault.cause)) (Tells g.E.Write.contents c.args.errors.now c.write.new.self) =
    rw c.path_at-path.ensures at c.write.ensures.told in
    subst (λ (e : ConvertError). TellsFailure (texts_now c.args.paths.now) (Refused e) (Tells g.E.Write.contents c.args.errors.now c.write.new.self)) (sym c.in-Fault.is) told
