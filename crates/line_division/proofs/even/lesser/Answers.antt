use Rattle.line_division.proofs.Least.{no_more_here}
use Rattle.line_division.proofs.even.lesser.Goals as goal

pub returns-then-is_less-clause-second : goal.returns-then-is_less-clause-second
returns-then-is_less-clause-second c = no_more_here c.args.other
