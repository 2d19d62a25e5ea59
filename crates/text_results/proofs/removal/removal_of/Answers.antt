use Rattle.std.proofs.Common.{ap, sym}
use Rattle.hyphenation_breaks.specs.Borrowed.{texts_now}
use Rattle.command_line.specs.Reading.{as_read}
use Rattle.text_results.specs.Reading.{as_target}
use Rattle.text_results.proofs.Removing.{removal_refused}
use Rattle.text_results.proofs.removal.removal_of.Goals as goal

pub returns-in-Ok-clause-refused : goal.returns-in-Ok-clause-refused
returns-in-Ok-clause-refused c =
    removal_refused c.args.source (as_read c.args.arguments.now) (as_target c.in-Ok.target) (texts_now c.deref.result.now) c.removal_to.result
    (sym c.if-not-has.ensures) c.in-Ok.ensures (ap texts_now c.deref.ensures.value) c.removal_to.ensures.refused
