use Rattle.std.proofs.Common.{rules}
use Rattle.word_pieces.proofs.pieces.end_after.Goals as goal

pub returns-in-Some-clause-end : goal.returns-in-Some-clause-end
returns-in-Some-clause-end c = (c.plain_end.ensures c.in-Some.end (search rules)).0
