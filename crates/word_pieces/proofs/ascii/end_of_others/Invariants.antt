use Rattle.std.proofs.Common.{◌-◌, ◌≤◌, length}
use Rattle.word_pieces.proofs.PlainWalks.{IsPlainWalk}
use Rattle.word_pieces.proofs.ascii.end_of_others.Given as goal

abbrev pub invariant-bytes : goal.invariant-bytes
invariant-bytes l = (l.at ≤ length l.text) × IsPlainWalk l.text l.start l.at l.last

abbrev pub decreases-bytes : goal.decreases-bytes
decreases-bytes l = length l.text - l.at
