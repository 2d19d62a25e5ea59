use Rattle.std.proofs.Common.{◌-◌, length}
use Rattle.word_pieces.specs.Private.Kinds.{IsRun}
use Rattle.word_pieces.proofs.ascii.past_run.Given as goal

abbrev pub invariant-bytes : goal.invariant-bytes
invariant-bytes l = IsRun l.bytes l.from l.at

abbrev pub decreases-bytes : goal.decreases-bytes
decreases-bytes l = length l.bytes - l.at
