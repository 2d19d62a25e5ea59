-- Letters of a word, as minima count them.
-- Source: libhyphen 2.8.8, hyphen.c.
use Rattle.std.specs.Prelude.{ℕ, ◌-◌, ◌==◌, ◌&&◌, ◌||◌, not, Bool, if◌then◌else◌, List, [], ◌∷◌, length, drop, min, slice_index}
use Rattle.std.specs.List.{prefix_len, range_with_len, suffix_len, sum_by}
use Rattle.std.specs.Char.{is_ascii_digit}
use Rattle.libhyphen_files.specs.Bytes.{begins_with, continues}

-- A byte of a text begins a character: in UTF-8 not if it continues one, unless it is the first. In other charsets each byte is
-- a character.
abbrev pub begins_char : Bool → List ℕ → ℕ → Bool
begins_char utf8 text at = at == 0 || not utf8 || not (continues (slice_index text at))

-- The ligature ffi or ffl, U+FB03 or U+FB04, is there. It is two letters.
abbrev pub has_ligature : Bool → List ℕ → ℕ → Bool
has_ligature utf8 text at =
    utf8 && (begins_with (drop at text) (0xEF ∷ 0xAC ∷ 0x83 ∷ []) || begins_with (drop at text) (0xEF ∷ 0xAC ∷ 0x84 ∷ []))

-- The number of letters that a byte begins.
abbrev pub letters_at : Bool → List ℕ → ℕ → ℕ
letters_at utf8 text at =
    if begins_char utf8 text at then (if has_ligature utf8 text at then 2 else 1) else 0

-- The number of letters that the first bytes of a text begin.
unfoldable pub letters_in_first : Bool → List ℕ → ℕ → ℕ
letters_in_first utf8 text bytes = sum_by (letters_at utf8 text) (range_with_len 0 bytes)

-- The number of letters that the first 100 bytes of a text begin, or all bytes of a shorter one.
abbrev pub letters_in_hundred : Bool → List ℕ → ℕ
letters_in_hundred utf8 text = letters_in_first utf8 text (min 100 (length text))

-- The number of letters of a text.
abbrev pub letters : Bool → List ℕ → ℕ
letters utf8 text = letters_in_first utf8 text (length text)

-- The number of digits with which a text begins.
abbrev pub digits_at_begin : List ℕ → ℕ
digits_at_begin text = prefix_len is_ascii_digit text

-- The number of digits with which a word ends. Its first byte is not one of them.
abbrev pub digits_at_end : List ℕ → ℕ
digits_at_end word = suffix_len is_ascii_digit (drop 1 word)

-- The number of characters of a word that begin at a byte or after it. A ligature is one.
unfoldable pub characters_from : Bool → List ℕ → ℕ → ℕ
characters_from utf8 word from =
    sum_by (λ at. if not utf8 || not (continues (slice_index word at)) then 1 else 0)
    (range_with_len from (length word - from))
