use Rattle.command_line.proofs.OptionsRead.{values_join}
use Rattle.command_line.proofs.options.values_join.Goals as goal

pub returns : goal.returns
returns c = values_join
