use Rattle.std.proofs.Common.{◌≡◌, [], drop, map}
use Rattle.std.specs.String.{string_bytes}
use Rattle.html_pieces.specs.Languages.{with_those_of}
use Rattle.html_pieces.specs.Pieces.{as_piece}
use Rattle.html_pieces.specs.Private.Languages.{HasThese}
use Rattle.html_pieces.proofs.languages.languages_of_pieces.Given as goal

-- The languages so far, with those of the pieces to come, are those of all pieces.
abbrev pub invariant-loop-piece : goal.invariant-loop-piece
invariant-loop-piece l =
    (with_those_of l.form (map string_bytes l.all.items) (map as_piece (drop l.piece-index l.pieces)) ≡ with_those_of l.form [] (map as_piece l.pieces))
    × HasThese l.all.items l.set
