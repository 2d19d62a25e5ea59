-- Readings after a piece, by what the code holds.
use Rattle.std.specs.Prelude.{Bool}
use Rattle.html_pieces.specs.Pieces.{as_piece}
use Rattle.html_pieces.specs.Elements.{as_selection, as_element}
use Rattle.html_pieces.specs.Readings.{Reading, as_reading, is_alike_by, is_loose_html_alike, is_loosely_alike, read_by, read_loosely, loosened}
use Rattle.html_pieces.specs.declared.bytes.PageForm.{PageForm}
use Rattle.html_pieces.specs.declared.groups.ElementGroup.{ElementGroup}
use Rattle.html_pieces.specs.declared.elements.Element as held
use Rattle.html_pieces.specs.declared.elements.Selection as asked
use Rattle.html_pieces.specs.declared.readings.Reading as declared
use Rattle.html_pieces.specs.declared.tokenizer.Piece as cut

-- A piece is read alike by all parsers, in a reading that is not loose.
abbrev pub is_held_alike : PageForm → held.Element → declared.Reading → ElementGroup → cut.Piece → Bool
is_held_alike form page reading group piece =
    is_alike_by form (as_element page) (as_reading reading) group (as_piece piece).kind (as_piece piece).bytes

-- So is a piece of a page in HTML, in a loose reading.
abbrev pub is_held_html_alike : PageForm → asked.Selection → held.Element → declared.Reading → ElementGroup → cut.Piece → Bool
is_held_html_alike form selection page reading group piece =
    is_loose_html_alike form (as_selection selection) (as_element page) (as_reading reading) group (as_piece piece).kind (as_piece piece).bytes

-- So is a piece of a loose reading.
abbrev pub is_held_loosely_alike : PageForm → asked.Selection → held.Element → declared.Reading → ElementGroup → cut.Piece → Bool
is_held_loosely_alike form selection page reading group piece =
    is_loosely_alike form (as_selection selection) (as_element page) (as_reading reading) group (as_piece piece).kind (as_piece piece).bytes

-- The reading after a piece, where it is not loose.
abbrev pub held_read : PageForm → asked.Selection → held.Element → declared.Reading → ElementGroup → cut.Piece → Reading
held_read form selection page reading group piece =
    read_by form (as_selection selection) (as_element page) (as_reading reading) group (as_piece piece)

-- A loose reading after a piece.
abbrev pub held_read_loosely : PageForm → asked.Selection → held.Element → declared.Reading → ElementGroup → cut.Piece → Reading
held_read_loosely form selection page reading group piece =
    read_loosely form (as_selection selection) (as_element page) (as_reading reading) group (as_piece piece)

-- A reading after a piece, before which it becomes loose.
abbrev pub held_read_loosened : PageForm → asked.Selection → held.Element → declared.Reading → ElementGroup → cut.Piece → Reading
held_read_loosened form selection page reading group piece =
    read_loosely form (as_selection selection) (as_element page) (loosened (as_reading reading)) group (as_piece piece)
