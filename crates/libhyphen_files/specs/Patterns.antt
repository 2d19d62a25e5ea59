-- A pattern of a `.dic`: a key, the digits at its places, and maybe a change of letters.
-- Sources: libhyphen 2.8.8, hyphen.c and README.nonstandard; L. Németh, Automatic non-standard hyphenation in
-- OpenOffice.org, TUGboat 27:1 (2006).
use Rattle.std.specs.Prelude.{ℕ, ℤ, ◌+◌, ◌-◌, ◌%◌, ◌==◌, ◌&&◌, ◌||◌, not, nat_le, nat_lt, Bool, if◌then◌else◌, List, [], ◌∷◌, length, take, filter, Option, None, Some, unwrap_or, slice_get, slice_index, slice_set}
use Rattle.std.specs.List.{list_any, before_first, after_first, slice_split, range_with_len}
use Rattle.std.specs.Char.{is_ascii_digit}
use Rattle.hyphenation_breaks.specs.Ascii.{carriage_return, line_feed, comma, dot, slash, digit_zero}
use Rattle.libhyphen_files.specs.Bytes.{continues}
use Rattle.libhyphen_files.specs.Numbers.{number_byte, signed}
use Rattle.libhyphen_files.specs.declared.pattern.Region.{Region}

-- A change: at a break the text takes the place of `cut` bytes. They begin `start` bytes after the first byte of the key that
-- is no leading dot. Where the break is, the text has an equals sign.
pub record Change : Type 0 where
  pub text : List ℕ
  pub start : ℤ
  pub cut : ℤ

-- A pattern without its key: the digit at each place, from before the first byte of the key to after its last one. A
-- place that has none has the digit 0.
pub record Pattern : Type 0 where
  pub digits : List ℕ
  pub change : Option Change

-- ---- The key and the digits.

-- The part of a line before its first slash.
abbrev pub before_slash : List ℕ → List ℕ
before_slash line = before_first (λ b. b == slash) line

-- The part of a text before its first space or control character.
abbrev pub before_blank : List ℕ → List ℕ
before_blank text = before_first (λ b. nat_le b 32) text

-- The part of a line that spells the key and the digits.
abbrev pub spelt : List ℕ → List ℕ
spelt line = before_blank (before_slash line)

abbrev pub no_digit : ℕ → Bool
no_digit b = not (is_ascii_digit b)

-- The key of a line: the bytes that are no digits.
abbrev pub key_of : List ℕ → List ℕ
key_of line = filter no_digit (spelt line)

-- The digit of each place of a text, where the place at its beginning has a digit already. The last digit of a place
-- counts.
abbrev pub digits_from : ℕ → List ℕ → List ℕ
digits_from digit [] = digit ∷ []
digits_from digit (b ∷ bs) = if is_ascii_digit b then digits_from b bs else digit ∷ digits_from digit_zero bs

-- A text begins with a dot.
abbrev pub begins_with_dot : List ℕ → Bool
begins_with_dot key = slice_index key 0 == dot

-- ---- The change.

-- A `Region` has the start and the cut of a change as signed bytes, each written as a number from 0 to 255.

-- One less, as a byte.
abbrev pub one_less : ℕ → ℕ
one_less byte = (byte + 255) % 256

-- A line has a slash.
abbrev pub is_changing : List ℕ → Bool
is_changing line = list_any (λ b. b == slash) line

-- The texts between commas.
abbrev pub fields_of : List ℕ → List (List ℕ)
fields_of text = slice_split (λ b. b == comma) text

-- The text after the first slash of a line.
abbrev pub after_slash : List ℕ → List ℕ
after_slash line = after_first (λ b. b == slash) line

abbrev pub field : List (List ℕ) → ℕ → List ℕ
field fields number = unwrap_or (slice_get fields number) []

-- A text without the end of its line. The end is a carriage return in the last place but one, with what follows it; or else
-- one of the two in the last place.
abbrev pub without_line_end : List ℕ → List ℕ
without_line_end text =
    if slice_index text (length text - 2) == carriage_return && nat_lt 1 (length text) then take (length text - 2) text
    else (if slice_index text (length text - 1) == carriage_return || slice_index text (length text - 1) == line_feed
    then take (length text - 1) text else text)

-- The text of a change.
abbrev pub text_of : List (List ℕ) → List ℕ
text_of fields = if length fields == 1 then without_line_end (field fields 0) else field fields 0

-- The region as it is written, by the number of bytes before the slash. Without a comma it has that many bytes; numbers count
-- only if both are there. The start is counted from 1.
abbrev pub region_written : ℕ → List (List ℕ) → Region
region_written before fields =
    if length fields == 1 then record { start = 0; cut = before % 256 }
    else (if length fields == 2 then record { start = 0; cut = 0 }
    else record { start = one_less (number_byte (field fields 1)); cut = number_byte (field fields 2) })

-- The first place of a key that is not before a leading dot.
abbrev pub first_place : List ℕ → ℕ
first_place key = if begins_with_dot key then 1 else 0

-- A place is at the beginning of a character of UTF-8, or at the end of the text.
abbrev pub is_char_place : List ℕ → ℕ → Bool
is_char_place key at = at == length key || not (continues (slice_index key at))

-- The places of a key between characters of UTF-8, its end too. A leading dot is no character.
abbrev pub char_places : List ℕ → List ℕ
char_places key =
    filter (is_char_place key) (range_with_len (first_place key) (length key + 1 - first_place key))

-- The place of a character, by its number.
abbrev pub place_of : List ℕ → ℕ → Option ℕ
place_of key number = slice_get (char_places key) number

-- The place of a character, by its number as a signed byte.
abbrev pub char_place : List ℕ → ℕ → Option ℕ
char_place key number = if nat_lt number 128 then place_of key number else None

-- A start before the first character counts as the first place, if the key begins within a character.
abbrev pub start_taken : List ℕ → ℕ → ℕ
start_taken key start = if start == 255 && not (is_char_place key (first_place key)) then first_place key else start

-- The end of a region that begins at a place, by the numbers of its first character and of its characters.
abbrev pub char_end : List ℕ → ℕ → ℕ → Option ℕ
char_end key start cut = if nat_lt cut 128 then place_of key (start + cut) else None

-- The number of bytes from a place to another one, if it is there. Else it stays the number of characters.
abbrev pub cut_between : ℕ → ℕ → Option ℕ → ℕ
cut_between cut begin None = cut
cut_between cut begin (Some end) = (end - begin) % 256

-- The cut in bytes, by the place at which the region begins. It stays a number of characters if the key has fewer.
abbrev pub cut_in_bytes : List ℕ → ℕ → ℕ → Option ℕ → ℕ
cut_in_bytes key start cut None = cut
cut_in_bytes key start cut (Some begin) = cut_between cut begin (char_end key start cut)

-- The start in bytes. It stays a number of characters if the key has fewer.
abbrev pub start_in_bytes : ℕ → Option ℕ → ℕ
start_in_bytes start begin = unwrap_or begin start % 256

-- The start is counted behind a leading dot.
abbrev pub start_behind_dot : List ℕ → ℕ → ℕ
start_behind_dot key start = if begins_with_dot key then one_less start else start

-- The region in bytes, of one in characters of UTF-8.
abbrev pub region_in_bytes_from : List ℕ → ℕ → ℕ → Region
region_in_bytes_from key start cut = record {
  start = start_behind_dot key (start_in_bytes start (char_place key start));
  cut = cut_in_bytes key start cut (char_place key start);
}

abbrev pub region_in_bytes : List ℕ → Region → Region
region_in_bytes key region = region_in_bytes_from key (start_taken key region.start) region.cut

-- A region without a cut has as many bytes as the key.
abbrev pub with_cut : List ℕ → Region → Region
with_cut key region = if region.cut == 0 then record region { cut = length key % 256 } else region

abbrev pub region_of : Bool → List ℕ → Region → Region
region_of utf8 key written = with_cut key (if utf8 then region_in_bytes key written else written)

abbrev pub change_by : List ℕ → Region → Change
change_by text region = record { text = text; start = signed region.start; cut = signed region.cut }

-- The change of a key, by the number of bytes before the slash and the texts between commas after it.
abbrev pub change_with : Bool → List ℕ → ℕ → List (List ℕ) → Change
change_with utf8 key before fields = change_by (text_of fields) (region_of utf8 key (region_written before fields))

-- The change of a line, if it has one.
abbrev pub change_of : Bool → List ℕ → Option Change
change_of utf8 line =
    if is_changing line
    then Some (change_with utf8 (key_of line) (length (before_slash line)) (fields_of (after_slash line)))
    else None

-- The digits of a changing pattern. The one before a leading dot does not count.
abbrev pub changing_digits : List ℕ → List ℕ → List ℕ
changing_digits key digits = if begins_with_dot key then slice_set digits 0 digit_zero else digits

-- The digits of a line.
abbrev pub digits_of : List ℕ → List ℕ
digits_of line =
    if is_changing line then changing_digits (key_of line) (digits_from digit_zero (spelt line))
    else digits_from digit_zero (spelt line)

-- The pattern of a line, without its key.
abbrev pub pattern_of : Bool → List ℕ → Pattern
pattern_of utf8 line = record { digits = digits_of line; change = change_of utf8 line }
