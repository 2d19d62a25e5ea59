-- The last steps over a whole word: texts beside which no break is, the word written with its breaks, and characters. Source:
-- libhyphen 2.8.8, hyphen.c and hyphen.h.
use Rattle.std.specs.Prelude.{ℕ, ◌+◌, ◌-◌, ◌==◌, ◌&&◌, ◌||◌, not, nat_le, nat_lt, Bool, if◌then◌else◌, List, [], ◌∷◌, ◌++◌, length, map, drop, take, filter, fold, count_by, Option, None, Some, option_map, slice_index, slice_index_or, slice_range}
use Rattle.std.specs.List.{list_any, range_with_len}
use Rattle.hyphenation_breaks.specs.Ascii.{equals_sign}
use Rattle.libhyphen_files.specs.Bytes.{begins_with, continues}
use Rattle.libhyphen_rule.specs.OneLevel.{ChangeAt, is_odd}

-- ---- Texts without breaks.

-- A text is in a word from a byte on. `text` is the word with what follows it, up to the first byte 0.
abbrev pub stands_at : List ℕ → ℕ → List ℕ → Bool
stands_at text at part = begins_with (drop at text) part

-- A text begins or ends at the place behind a byte.
abbrev pub is_beside : List ℕ → ℕ → List ℕ → Bool
is_beside text byte part =
    stands_at text (byte + 1) part || (nat_le (length part) (byte + 1) && stands_at text (byte + 1 - length part) part)

-- The digits, with another byte in the place of those at which one of the parts begins or ends.
abbrev pub digits_beside : List (List ℕ) → ℕ → List ℕ → List ℕ → List ℕ
digits_beside parts instead text digits =
    map (λ byte. if list_any (is_beside text byte) parts then instead else slice_index digits byte)
    (range_with_len 0 (length digits))

-- ---- The word, written.

-- A word while it is written: what is written, and the next byte that is copied.
pub record Writing : Type 0 where
  pub written : List ℕ
  pub next : ℕ

-- The last bytes of a list are taken away.
abbrev pub without_last_bytes : ℕ → List ℕ → List ℕ
without_last_bytes count written = take (length written - count) written

-- The text with the mark of an odd place. It is an equals sign, or the text of the change in the place of the bytes before it.
abbrev pub with_mark : List ℕ → Option ChangeAt → List ℕ
with_mark written None = written ++ equals_sign ∷ []
with_mark written (Some change) = without_last_bytes change.pos written ++ change.text

-- The number of bytes of a change's region that are behind the place. They are passed over.
abbrev pub passed_over : Option ChangeAt → ℕ
passed_over None = 0
passed_over (Some change) = change.cut - change.pos

-- One more byte is copied, and the place behind it is marked if its digit is odd.
abbrev pub with_copied : List ℕ → ℕ → ℕ → Option ChangeAt → ℕ → Writing
with_copied written byte digit change number =
    if is_odd digit
    then record {
      written = with_mark (written ++ byte ∷ []) change;
      next = number + 1 + passed_over change;
    }
    else record { written = written ++ byte ∷ []; next = number + 1 }

-- The byte with a number is written, if it is not passed over.
abbrev pub with_byte : List ℕ → List ℕ → List (Option ChangeAt) → Writing → ℕ → Writing
with_byte word digits changes writing number =
    if nat_lt number writing.next then writing
    else with_copied writing.written (slice_index word number) (slice_index digits number)
    (slice_index_or changes number None) number

-- The first bytes of a word, written.
unfoldable pub writing_at : List ℕ → List ℕ → List (Option ChangeAt) → ℕ → Writing
writing_at word digits changes bytes =
    fold (with_byte word digits changes) (record { written = []; next = 0 }) (range_with_len 0 bytes)

-- The word with an equals sign at each odd place, and with the texts of changes in the places of their regions.
abbrev pub written_word : List ℕ → List ℕ → List (Option ChangeAt) → List ℕ
written_word word digits changes = (writing_at word digits changes (length word)).written

-- ---- Characters of UTF-8.

-- A byte begins a character of UTF-8.
abbrev pub begins : ℕ → Bool
begins byte = not (continues byte)

-- The number of characters that a text begins.
abbrev pub characters : List ℕ → ℕ
characters text = count_by begins text

-- A byte of a word is the last one of a character.
abbrev pub is_last : List ℕ → ℕ → Bool
is_last word byte = byte + 1 == length word || begins (slice_index word (byte + 1))

-- The last bytes of the characters of a word, by their numbers. The word begins with a whole character.
unfoldable pub last_bytes : List ℕ → List ℕ
last_bytes word = filter (is_last word) (range_with_len 0 (length word))

-- A change with its numbers in characters. `text` is the word with all that follows it, and a byte 0.
abbrev pub change_in_characters : List ℕ → ℕ → ChangeAt → ChangeAt
change_in_characters text byte change = record change {
  pos = characters (slice_range text (byte + 1 - change.pos) (byte + 1));
  cut = characters (slice_range text (byte + 1 - change.pos) (byte + 1 + change.cut - change.pos));
}

-- For each character the digit behind its last byte.
abbrev pub digits_of_characters : List ℕ → List ℕ → List ℕ
digits_of_characters word digits = map (λ byte. slice_index digits byte) (last_bytes word)

-- For each character the change behind its last byte, with its numbers in characters.
abbrev pub changes_of_characters : List ℕ → List ℕ → List (Option ChangeAt) → List (Option ChangeAt)
changes_of_characters word text changes =
    map (λ byte. option_map (change_in_characters text byte) (slice_index_or changes byte None)) (last_bytes word)
