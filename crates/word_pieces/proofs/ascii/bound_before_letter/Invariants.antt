use Rattle.std.proofs.Common.{◌<◌, ◌≤◌, length}
use Rattle.word_pieces.proofs.ascii.bound_before_letter.Given as goal

abbrev pub invariant-bytes : goal.invariant-bytes
invariant-bytes l = (l.at ≤ l.to) × (l.at < length l.text)

abbrev pub decreases-bytes : goal.decreases-bytes
decreases-bytes l = l.at
