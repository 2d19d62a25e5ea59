use Rattle.command_line.proofs.OptionsRead.{operands_follow_dashes}
use Rattle.command_line.proofs.options.operands_follow_dashes.Goals as goal

pub returns : goal.returns
returns c = operands_follow_dashes
