-- The columns of a picture: where the letters of its rows and the words about them begin.
use Rattle.std.specs.Prelude.{ℕ, ◌+◌, ◌-◌, nat_lt, nat_le, ◌&&◌, false, if◌then◌else◌, List, [], ◌∷◌, ◌++◌, length, chars, map, max, replicate, slice_index, slice_index_or, slice_set, unwrap_or}
use Rattle.std.specs.Char.{len_utf8}
use Rattle.unicode_width.specs.Width.{char_width}
use Rattle.hyphenation_breaks.specs.declared.entry.Entry.{Entry}
use Rattle.explanations.specs.Rows.{PatternRow}
use Rattle.explanations.specs.declared.layout.Place.{Place}

-- The columns of a value, which is at most 255: one for each digit.
abbrev pub value_columns : ℕ → ℕ
value_columns value = if nat_lt value 10 then 1 else (if nat_lt value 100 then 2 else 3)

-- The columns of a character, as a terminal has them; 1 for a control character, which has none there.
abbrev pub shown_columns : ℕ → ℕ
shown_columns c = unwrap_or (char_width false c) 1

-- The columns for a value of one digit before a byte: one, or none within a character.
abbrev pub column_before : ℕ → ℕ
column_before byte = if nat_le 128 byte && nat_lt byte 192 then 0 else 1

-- The columns for a value of one digit at each place of a frame and at its end.
abbrev pub single_columns : List ℕ → List ℕ
single_columns framed = map column_before framed ++ 1 ∷ []

-- Columns with room for a value at a place, if they have that place.
abbrev pub with_room_at : List ℕ → ℕ → ℕ → List ℕ
with_room_at columns place value = slice_set columns place (max (slice_index columns place) (value_columns value))

-- Columns with room for the values of a row that starts at this place and has these entries.
abbrev pub with_room_for_entries : {C : Type 0} → ℕ → List ℕ → List (Entry C) → List ℕ
with_room_for_entries start columns [] = columns
with_room_for_entries start columns (entry ∷ entries) =
    with_room_for_entries start (with_room_at columns (start + entry.place) entry.value) entries

-- Columns with room for the values of rows.
abbrev pub with_room_for : {C : Type 0} → List ℕ → List (PatternRow C) → List ℕ
with_room_for columns [] = columns
with_room_for columns (row ∷ rows) = with_room_for (with_room_for_entries row.start columns row.entries) rows

-- The columns for the value at each place of a frame above rows: those of the widest value that rows have there.
abbrev pub with_room_above : {C : Type 0} → List ℕ → List (PatternRow C) → List ℕ
with_room_above framed rows = with_room_for (single_columns framed) rows

-- A place whose value begins at this column. Value and letter have that many columns.
abbrev pub place_at : ℕ → ℕ → ℕ → Place
place_at column value letter = record { value = column; letter = column + value; end = column + value + letter }

-- A place within a character, which ends at this column.
abbrev pub place_within : ℕ → Place
place_within column = record { value = column; letter = column; end = column }

-- The places of a text of these characters from this one on, and of its end. The value of the first begins at this column.
abbrev pub places_from : List ℕ → ℕ → ℕ → List ℕ → List Place
places_from values at column [] = record { value = column; letter = column + slice_index values at; end = column + slice_index values at } ∷ []
places_from values at column (c ∷ cs) = place_at column (slice_index values at) (shown_columns c)
    ∷ replicate (len_utf8 c - 1) (place_within (column + slice_index values at + shown_columns c))
    ++ places_from values (at + len_utf8 c) (column + slice_index values at + shown_columns c) cs

-- The places of a frame above rows.
abbrev pub places_above : {C : Type 0} → List ℕ → List (PatternRow C) → List Place
places_above framed rows = places_from (with_room_above framed rows) 0 0 (chars framed)

-- The place at a number of bytes.
unfoldable pub place_in : List Place → ℕ → Place
place_in places at = slice_index_or places at (record { value = 0; letter = 0; end = 0 })

-- The number of columns of a frame.
abbrev pub frame_columns : List Place → ℕ
frame_columns places = (place_in places (length places - 1)).value

-- The column of a picture at which the line of a row begins that starts at this place of the frame. Below a frame of more than
-- 400 columns the line begins with the row.
unfoldable pub line_begin : List Place → ℕ → ℕ
line_begin places start = if nat_lt 400 (frame_columns places) then (place_in places start).value else 0

-- The column at which the words about a row of the whole word begin, whose letters have these columns from the first letter on.
unfoldable pub note_column : List Place → ℕ → ℕ
note_column places width = max (frame_columns places + 2) ((place_in places 1).letter + width) + 2
