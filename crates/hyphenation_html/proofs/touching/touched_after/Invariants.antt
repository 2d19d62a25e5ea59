use Rattle.std.proofs.Common.{◌≡◌, map, drop}
use Rattle.html_pieces.specs.Pieces.{as_piece}
use Rattle.hyphenation_html.specs.Touching.{touched_after}
use Rattle.hyphenation_html.proofs.touching.touched_after.Given as goal

abbrev pub invariant-loop-piece : goal.invariant-loop-piece
invariant-loop-piece l = touched_after (map as_piece (drop l.piece-index l.pieces)) ≡ touched_after (map as_piece l.pieces)
