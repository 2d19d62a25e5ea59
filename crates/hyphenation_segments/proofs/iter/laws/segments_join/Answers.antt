use Rattle.std.proofs.Common.{arith}
use Rattle.hyphenation_segments.proofs.SegmentsJoin.{joined}
use Rattle.hyphenation_segments.proofs.iter.laws.segments_join.Goals as goal

pub returns : goal.returns
returns c = λ text places fit. joined text 0 0 places (omega arith) fit
