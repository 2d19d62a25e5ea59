use Rattle.std.proofs.Common.{◌≡◌, drop, map}
use Rattle.html_pieces.specs.Pieces.{as_piece}
use Rattle.html_pieces.specs.Elements.{as_element}
use Rattle.html_pieces.specs.Readings.{as_reading}
use Rattle.hyphenation_html.specs.Unread.{unread_from, unread_in}
use Rattle.hyphenation_html.proofs.unread.unread_in.Given as goal

abbrev pub invariant-loop-piece : goal.invariant-loop-piece
invariant-loop-piece l =
    unread_from l.form l.settings.class.now (as_element l.around) (as_reading l.reading) l.line (map as_piece (drop l.piece-index l.pieces))
    ≡ unread_in l.settings l.form (as_element l.around) (map as_piece l.pieces)
