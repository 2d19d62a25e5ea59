-- Character references in the values of attributes.
-- Source: HTML Living Standard, 13.2.5.72 (Character reference state) to 13.2.5.80 (Numeric character reference end state);
-- and 13.5 (Named character references). A named one is read where it names one character of ASCII.
use Rattle.std.specs.Prelude.{ℕ, zero, suc, ◌+◌, ◌-◌, ◌==◌, ◌||◌, ◌&&◌, Bool, true, false, List, [], ◌∷◌, ◌++◌, codes, length, map, take_while, slice_index, nat_eq, nat_le, nat_lt, Option, Some, None, if◌then◌else◌}
use Rattle.std.specs.Option.{option_map, option_map_or}
use Rattle.std.specs.Char.{encode_utf8, digit_value}
use Rattle.std.specs.Int.Digits.{number_from_digits}
use Rattle.std.specs.Cmp.Lexicographic.{pointwise}
use Rattle.html_pieces.specs.Bytes.{is_alphanumeric}

-- A reference that is read: its character, and how many bytes it has after its "&".
pub record Reference : Type 0 where
  pub character : ℕ
  pub size : ℕ

-- ---- numeric references

-- A digit, hexadecimal or decimal.
abbrev pub is_digit : Bool → ℕ → Bool
is_digit hexadecimal b =
    nat_le 48 b && nat_le b 57 || hexadecimal && (nat_le 65 b && nat_le b 70 || nat_le 97 b && nat_le b 102)

-- The base in which digits write a number.
abbrev pub base_of : Bool → ℕ
base_of hexadecimal = if hexadecimal then 16 else 10

-- The number that digits write.
abbrev pub number_of : Bool → List ℕ → ℕ
number_of hexadecimal digits = number_from_digits (base_of hexadecimal) (map digit_value digits)

-- The characters of windows-1252, that the numbers 0x80 to 0x9F mean.
abbrev pub windows_1252 : List ℕ
windows_1252 =
    0x20AC ∷ 0x81 ∷ 0x201A ∷ 0x0192 ∷ 0x201E ∷ 0x2026 ∷ 0x2020 ∷ 0x2021 ∷ 0x02C6 ∷ 0x2030 ∷ 0x0160 ∷ 0x2039 ∷ 0x0152 ∷ 0x8D ∷ 0x017D ∷ 0x8F
    ∷ 0x90 ∷ 0x2018 ∷ 0x2019 ∷ 0x201C ∷ 0x201D ∷ 0x2022 ∷ 0x2013 ∷ 0x2014 ∷ 0x02DC ∷ 0x2122 ∷ 0x0161 ∷ 0x203A ∷ 0x0153 ∷ 0x9D ∷ 0x017E ∷ 0x0178 ∷ []

-- The number is that of a character, and not 0.
abbrev pub is_character : ℕ → Bool
is_character number = nat_lt 0 number && nat_lt number 0xD800 || nat_le 0xE000 number && nat_lt number 0x11_0000

-- The character that a number means. One that means none gives U+FFFD.
abbrev pub character_of : ℕ → ℕ
character_of number =
    if nat_le 0x80 number && nat_le number 0x9F then slice_index windows_1252 (number - 0x80)
    else if is_character number then number
    else 0xFFFD

-- The bytes of the semicolon that may end a reference: 1 if it is at a place, else 0.
abbrev pub semicolon_at : List ℕ → ℕ → ℕ
semicolon_at bytes place = if slice_index bytes place == 59 then 1 else 0

-- The reference of some digits, which bytes begin with. It has this number of bytes before them; none is there without digits.
abbrev pub reference_of_digits : Bool → ℕ → List ℕ → List ℕ → Option Reference
reference_of_digits hexadecimal before digits bytes =
    if length digits == 0 then None
    else Some (record {
      character = character_of (number_of hexadecimal digits);
      size = before + length digits + semicolon_at bytes (length digits);
    })

-- The reference whose digits are all that bytes begin with.
abbrev pub digits_at : Bool → ℕ → List ℕ → Option Reference
digits_at hexadecimal before bytes = reference_of_digits hexadecimal before (take_while (is_digit hexadecimal) bytes) bytes

-- The reference that goes on after "&#".
abbrev pub number_at : List ℕ → Option Reference
number_at [] = None
number_at (b ∷ bs) = if b == 120 || b == 88 then digits_at true 2 bs else digits_at false 1 (b ∷ bs)

-- ---- named references

-- A name is this one, capital for capital.
abbrev pub is_named : List ℕ → List ℕ → Bool
is_named name other = pointwise nat_eq name other

-- The characters that are named without ";" too.
unfoldable pub old_named : List ℕ → Option ℕ
old_named name =
    if is_named name (codes "amp") || is_named name (codes "AMP") then Some 38
    else if is_named name (codes "quot") || is_named name (codes "QUOT") then Some 34
    else if is_named name (codes "lt") || is_named name (codes "LT") then Some 60
    else if is_named name (codes "gt") || is_named name (codes "GT") then Some 62
    else None

-- White space and brackets by their names.
unfoldable pub bracket_named : List ℕ → Option ℕ
bracket_named name =
    if is_named name (codes "Tab") then Some 9
    else if is_named name (codes "NewLine") then Some 10
    else if is_named name (codes "lpar") then Some 40
    else if is_named name (codes "rpar") then Some 41
    else if is_named name (codes "lsqb") || is_named name (codes "lbrack") then Some 91
    else if is_named name (codes "rsqb") || is_named name (codes "rbrack") then Some 93
    else if is_named name (codes "lcub") || is_named name (codes "lbrace") then Some 123
    else if is_named name (codes "rcub") || is_named name (codes "rbrace") then Some 125
    else None

-- Marks of sentences by their names.
unfoldable pub sentence_named : List ℕ → Option ℕ
sentence_named name =
    if is_named name (codes "apos") then Some 39
    else if is_named name (codes "excl") then Some 33
    else if is_named name (codes "quest") then Some 63
    else if is_named name (codes "comma") then Some 44
    else if is_named name (codes "period") then Some 46
    else if is_named name (codes "colon") then Some 58
    else if is_named name (codes "semi") then Some 59
    else if is_named name (codes "sol") then Some 47
    else if is_named name (codes "bsol") then Some 92
    else None

-- Other signs by their names.
unfoldable pub sign_named : List ℕ → Option ℕ
sign_named name =
    if is_named name (codes "num") then Some 35
    else if is_named name (codes "dollar") then Some 36
    else if is_named name (codes "percnt") then Some 37
    else if is_named name (codes "ast") || is_named name (codes "midast") then Some 42
    else if is_named name (codes "plus") then Some 43
    else if is_named name (codes "equals") then Some 61
    else if is_named name (codes "commat") then Some 64
    else None

-- Accents and lines by their names.
unfoldable pub line_named : List ℕ → Option ℕ
line_named name =
    if is_named name (codes "Hat") then Some 94
    else if is_named name (codes "lowbar") || is_named name (codes "UnderBar") then Some 95
    else if is_named name (codes "grave") || is_named name (codes "DiacriticalGrave") then Some 96
    else if is_named name (codes "vert") || is_named name (codes "verbar") || is_named name (codes "VerticalLine") then Some 124
    else None

-- The first of two that there is.
abbrev pub first_named : Option ℕ → Option ℕ → Option ℕ
first_named None other = other
first_named (Some character) other = Some character

-- The character of ASCII that has a name.
abbrev pub named : List ℕ → Option ℕ
named name =
    first_named (old_named name)
    (first_named (bracket_named name) (first_named (sentence_named name) (first_named (sign_named name) (line_named name))))

-- A reference of some bytes.
abbrev pub reference_of_size : ℕ → Option ℕ → Option Reference
reference_of_size size character = option_map (λ c. record { character = c; size = size }) character

-- The reference of a name that bytes begin with. Without ";" it is none where "=" comes next.
abbrev pub reference_of_name : List ℕ → List ℕ → Option Reference
reference_of_name name bytes =
    if slice_index bytes (length name) == 59 then reference_of_size (length name + 1) (named name)
    else if slice_index bytes (length name) == 61 then None
    else reference_of_size (length name) (old_named name)

-- The reference whose name bytes begin with. All letters and digits are of the name, so that none comes after one without
-- ";", as the standard wants it in attributes.
abbrev pub name_at : List ℕ → Option Reference
name_at bytes = reference_of_name (take_while is_alphanumeric bytes) bytes

-- ---- values

-- The reference that goes on after "&".
abbrev pub reference_at : List ℕ → Option Reference
reference_at [] = None
reference_at (b ∷ bs) = if b == 35 then number_at bs else name_at (b ∷ bs)

-- A value as it is read, where its next `skip` bytes are of a reference that has been read.
abbrev pub read_from : ℕ → List ℕ → List ℕ
read_from skip [] = []
read_from (suc skip) (b ∷ bs) = read_from skip bs
read_from zero (b ∷ bs) =
    if b == 38
    then option_map_or (λ r. encode_utf8 r.character ++ read_from r.size bs) (reference_at bs) (b ∷ read_from zero bs)
    else b ∷ read_from zero bs

-- A value as it is read: with the character of each reference in its place.
abbrev pub read_value : List ℕ → List ℕ
read_value value = read_from 0 value

-- An "&" is in the value.
abbrev pub has_ampersand : List ℕ → Bool
has_ampersand [] = false
has_ampersand (b ∷ bs) = b == 38 || has_ampersand bs
