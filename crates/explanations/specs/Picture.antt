-- The rows of a picture, for people or in a drawing in SVG. Both have the same texts in the same order. In the picture for people
-- spaces put a text at its column. In a drawing each text is an element at its column.
-- Source of the elements: SVG 1.1 of the W3C.
use Rattle.std.specs.Prelude.{ℕ, ◌+◌, ◌-◌, ◌*◌, ◌%◌, ◌==◌, ◌&&◌, not, Bool, if◌then◌else◌, true, false, List, [], ◌∷◌, ◌++◌, length, chars, codes, Option, Some, None, decimal, replicate, slice_range}
use Rattle.unicode_width.specs.Width.{str_width}
use Rattle.hyphenation_breaks.specs.Ascii.{space}
use Rattle.hyphenation_breaks.specs.Break.{Change}
use Rattle.hyphenation_breaks.specs.declared.entry.Entry.{Entry}
use Rattle.explanations.specs.Columns.{places_above, place_in, value_columns, line_begin, note_column}
use Rattle.explanations.specs.Escaping.{escaped, escaped_byte}
use Rattle.explanations.specs.Facts.{Facts}
use Rattle.explanations.specs.Marks.{mark_at}
use Rattle.explanations.specs.Notes.{row_note, decision_text}
use Rattle.explanations.specs.Rows.{PatternRow}
use Rattle.explanations.specs.declared.layout.Place.{Place}
use Rattle.explanations.specs.declared.marks.Mark.{Mark}

-- A picture as far as it is made: whether it is a drawing in SVG, its text, and the column at which the last text of the row ends.
pub record Painted : Type 0 where
  pub svg : Bool
  pub text : List ℕ
  pub column : ℕ

-- The bytes before a text of this class at a column: spaces from another column on, or in a drawing the begin of its element, which
-- ends the one before. A column has 12 pixels, and one is left free.
abbrev pub gap : Bool → List ℕ → ℕ → ℕ → List ℕ
gap svg class from column = if svg
    then codes "</tspan><tspan" ++ (class ++ (codes " x='" ++ (decimal (12 * (column + 1)) ++ codes "'>")))
    else replicate (column - from) space

-- A text, which is escaped in a drawing.
abbrev pub shown : Bool → List ℕ → List ℕ
shown svg text = if svg then escaped text else text

-- The byte of a text after the two bytes before it, likewise.
abbrev pub shown_byte : Bool → ℕ → ℕ → ℕ → List ℕ
shown_byte svg first second byte = if svg then escaped_byte first second byte else byte ∷ []

-- A text of a class is put at a column, and ends at another one.
unfoldable pub put : List ℕ → ℕ → List ℕ → ℕ → Painted → Painted
put class column text end painted = record {
  svg = painted.svg;
  text = painted.text ++ (gap painted.svg class painted.column column ++ shown painted.svg text);
  column = end;
}

-- A byte is put after the two bytes before it.
unfoldable pub byte_put : ℕ → ℕ → ℕ → Painted → Painted
byte_put first second byte painted = record {
  svg = painted.svg;
  text = painted.text ++ shown_byte painted.svg first second byte;
  column = painted.column;
}

-- The begin or the end of a row is put, which is this in a drawing and that in a text. The texts after it are put from a column on.
unfoldable pub marked : List ℕ → List ℕ → ℕ → Painted → Painted
marked drawn text column painted = record {
  svg = painted.svg;
  text = painted.text ++ (if painted.svg then drawn else text);
  column = column;
}

-- The class of a value, as an attribute: its parity, and whether it is the greatest of its place.
unfoldable pub value_class : Mark → List ℕ
value_class mark =
    if (mark.value % 2 == 1) && mark.wins then codes " class='odd wins'" else if mark.value % 2 == 1 then codes " class='odd'"
    else if mark.wins then codes " class='even wins'" else codes " class='even'"

-- A value is put at the end of the columns for it, if there is one.
unfoldable pub value_put : Place → Option Mark → Painted → Painted
value_put place None painted = painted
value_put place (Some mark) painted =
    put (value_class mark) (place.letter - value_columns mark.value) (decimal mark.value) place.letter painted

-- The byte at a place is put, after the two bytes before it. A character without columns joins what is before it, unless it is the
-- first of its row.
unfoldable pub letter_put : Place → Bool → ℕ → ℕ → ℕ → Painted → Painted
letter_put place is_first first second byte painted = if not is_first && (place.letter == place.end)
    then byte_put first second byte painted
    else byte_put first second byte (put [] place.letter [] place.end painted)

-- Letters are put from this place on, each with the value before it, and then the value at their end.
abbrev pub letters_put : List Place → (ℕ → Option Mark) → ℕ → Bool → ℕ → ℕ → List ℕ → Painted → Painted
letters_put places marks at is_first first second [] painted = value_put (place_in places at) (marks at) painted
letters_put places marks at is_first first second (byte ∷ bytes) painted = letters_put places marks (at + 1) false second byte bytes
    (letter_put (place_in places at) is_first first second byte (value_put (place_in places at) (marks at) painted))

-- A note is put at a column, if it is not empty.
unfoldable pub note_put : ℕ → List ℕ → Painted → Painted
note_put column note painted =
    if length note == 0 then painted else put (codes " class='note'") column note column painted

-- A row begins. In a drawing it is a no-break space, 24 pixels below the row before.
abbrev pub row_begun : ℕ → Painted → Painted
row_begun column painted = marked (codes "<tspan x='0' dy='24'>&#160;") [] column painted

-- A row ends.
abbrev pub row_ended : Painted → Painted
row_ended painted = marked (codes "</tspan\n>") (codes "\n") 0 painted

-- The last row ends. In a drawing an empty row comes after it.
abbrev pub last_ended : Painted → Painted
last_ended painted = marked (codes "</tspan\n><tspan x='0' dy='24'>&#160;</tspan\n>") (codes "\n") 0 painted

-- The row of letters that start at a place of the frame is put, with their values, and a note at a column.
unfoldable pub line_put : List Place → (ℕ → Option Mark) → ℕ → List ℕ → ℕ → List ℕ → Painted → Painted
line_put places marks start letters column note painted =
    row_ended (note_put column note (letters_put places marks start true 0 0 letters (row_begun (line_begin places start) painted)))

-- A row is put. The row of a pattern has its text with its values, below the frame, and then their changes. Without a pattern it is
-- the row of the scores: the word with the greatest value of each place, and the changes of these.
unfoldable pub row_put : {C : Type 0} → (C → Option Change) → List Place → Facts C → Option (PatternRow C) → Painted → Painted
row_put {C} change_of places facts None painted =
    line_put places (mark_at {C = C} facts.folded facts.scores None) 1 facts.folded (note_column places 0)
    (row_note change_of facts.scores None) painted
row_put change_of places facts (Some row) painted =
    line_put places (mark_at facts.folded facts.scores (Some row)) row.start
    (slice_range facts.framed row.start (row.start + row.bytes)) (place_in places (row.start + row.bytes)).letter
    (row_note change_of facts.scores (Some row)) painted

-- The row of a word with its breaks is put, below the first letter of the word, and the fact that decides.
unfoldable pub breaks_put : {C : Type 0} → List Place → Facts C → Painted → Painted
breaks_put places facts painted =
    let letter = (place_in places 1).letter in
    let width = str_width false (chars facts.hyphenated) in
    last_ended (note_put (note_column places width) (decision_text facts.decision facts.minima)
    (put (codes " class='word'") letter facts.hyphenated (letter + width) (row_begun (line_begin places 1) painted)))

-- The rows of patterns are put, one below the other.
abbrev pub patterns_put : {C : Type 0} → (C → Option Change) → List Place → Facts C → List (PatternRow C) → Painted → Painted
patterns_put change_of places facts [] painted = painted
patterns_put change_of places facts (row ∷ rows) painted =
    patterns_put change_of places facts rows (row_put change_of places facts (Some row) painted)

-- A row that has a whole text.
abbrev pub whole_row : {C : Type 0} → List ℕ → List (Entry C) → PatternRow C
whole_row text entries = record { start = 0; bytes = length text; entries = entries }

-- All rows are put: the frame, the patterns that occur in it, the scores, and the word with its breaks.
unfoldable pub rows_put : {C : Type 0} → (C → Option Change) → List Place → Facts C → Painted → Painted
rows_put change_of places facts painted =
    breaks_put places facts (row_put change_of places facts None (patterns_put change_of places facts facts.rows
    (row_put change_of places facts (Some (whole_row facts.framed [])) painted)))

-- The picture: for people, or as elements of a drawing.
abbrev pub picture_of : {C : Type 0} → Bool → (C → Option Change) → Facts C → List ℕ
picture_of svg change_of facts = (rows_put change_of (places_above facts.framed facts.rows) facts
    (record { svg = svg; text = []; column = 0 })).text
