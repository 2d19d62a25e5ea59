use Rattle.command_line.proofs.OptionsRead.{operands_are_read}
use Rattle.command_line.proofs.options.operands_are_read.Goals as goal

pub returns : goal.returns
returns c = operands_are_read
