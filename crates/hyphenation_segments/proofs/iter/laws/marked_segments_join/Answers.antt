use Rattle.std.proofs.Common.{arith}
use Rattle.hyphenation_segments.proofs.SegmentsJoin.{marked_joined}
use Rattle.hyphenation_segments.proofs.iter.laws.marked_segments_join.Goals as goal

pub returns : goal.returns
returns c = λ mark text places fit. marked_joined mark text 0 0 places (omega arith) fit
