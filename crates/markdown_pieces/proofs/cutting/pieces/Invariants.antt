use Rattle.std.proofs.Common.{map}
use Rattle.markdown_pieces.specs.Pieces.{as_piece}
use Rattle.markdown_pieces.proofs.PieceSteps.{Told}
use Rattle.markdown_pieces.proofs.cutting.pieces.Given as goal

abbrev pub invariant-loop-i : goal.invariant-loop-i
invariant-loop-i l = Told l.text (map as_piece l.pieces.items) l.state l.kind l.start l.i
