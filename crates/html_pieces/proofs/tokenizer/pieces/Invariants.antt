use Rattle.std.proofs.Common.{◌-◌, length, map}
use Rattle.html_pieces.specs.Pieces.{as_piece}
use Rattle.html_pieces.proofs.PieceSteps.{Told}
use Rattle.html_pieces.proofs.tokenizer.pieces.Given as goal

abbrev pub invariant-loop-i : goal.invariant-loop-i
invariant-loop-i l = Told l.form l.page (map as_piece l.pieces.items) l.depth l.state l.start l.i

abbrev pub decreases-loop-i : goal.decreases-loop-i
decreases-loop-i l = length l.page - l.i
