use Rattle.std.proofs.Common.{◌≡◌, drop, map, false}
use Rattle.html_pieces.specs.Pieces.{as_piece}
use Rattle.html_pieces.specs.Elements.{as_selection}
use Rattle.html_pieces.specs.Readings.{has_late_root}
use Rattle.html_pieces.proofs.readings.has_late_root.Given as goal

abbrev pub invariant-loop-piece : goal.invariant-loop-piece
invariant-loop-piece l =
    has_late_root l.form (as_selection l.selection) l.seen (map as_piece (drop l.piece-index l.pieces))
    ≡ has_late_root l.form (as_selection l.selection) false (map as_piece l.pieces)
