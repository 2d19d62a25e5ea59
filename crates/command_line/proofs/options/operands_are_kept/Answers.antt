use Rattle.command_line.proofs.OptionsRead.{operands_are_kept}
use Rattle.command_line.proofs.options.operands_are_kept.Goals as goal

pub returns : goal.returns
returns c = operands_are_kept
