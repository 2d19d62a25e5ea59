use Rattle.std.proofs.Common.{length}
use Rattle.command_line.proofs.adjustments.+with_first_list.Given as goal

abbrev pub decreases-with_first_list : goal.decreases-with_first_list
decreases-with_first_list g l = length l.paths.now
