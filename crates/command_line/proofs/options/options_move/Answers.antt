use Rattle.command_line.proofs.OptionsRead.{options_move}
use Rattle.command_line.proofs.options.options_move.Goals as goal

pub returns : goal.returns
returns c = options_move
