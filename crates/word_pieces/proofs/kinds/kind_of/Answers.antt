use Rattle.word_pieces.proofs.Tables.{kind_of_byte-KINDS}
use Rattle.word_pieces.proofs.kinds.kind_of.Goals as goal

pub returns : goal.returns
returns c = kind_of_byte-KINDS c.args.byte c.ranges.byte.fits
