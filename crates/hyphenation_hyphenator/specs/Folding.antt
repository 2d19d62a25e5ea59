-- The folding of a word to lowercase, and the way back to the word as written.
-- Sources, of Unicode 18.0.0: CaseFolding.txt (the lines of status C and S), and the property Uppercase of
-- DerivedCoreProperties.txt.
use Rattle.std.specs.Prelude.{◌≡◌, ℕ, ◌+◌, ◌<◌, ◌^◌, ◌==◌, List, Bool, not, length, take, map, filter, find, reverse, chars, slice_index, nat_lt, ℤ, pos, ◌-ℤ◌, encode_utf8_all, if◌then◌else◌}
use Rattle.std.specs.Char.{encode_utf8}
use Rattle.std.specs.List.{list_any, range_with_len}
use Rattle.std.specs.Option.{option_map_or}
use Rattle.std.specs.Str.{IsUtf8}
use Rattle.unicode.specs.Binary.{is_uppercase}
use Rattle.unicode.specs.CaseFolding.{simple_fold}
use Rattle.hyphenation_hyphenator.specs.declared.case_folding.Shift.{Shift}
use Rattle.hyphenation_hyphenator.specs.Places.{place_of_character}

-- The folding of a character. U+0130, the Turkish capital dotted I, becomes U+0069; any other Uppercase character
-- becomes its simple case folding; all others stay.
abbrev pub fold_character : ℕ → ℕ
fold_character c = if c == 0x130 then 0x69 else (if is_uppercase c then simple_fold c else c)

-- The folding of a text, character by character.
abbrev pub fold_case : List ℕ → List ℕ
fold_case text = encode_utf8_all (map fold_character (chars text))

-- Some character is Uppercase.
abbrev pub has_uppercase : List ℕ → Bool
has_uppercase text = list_any is_uppercase (chars text)

-- A character boundary of the folded text, carried back: the place in the text as written with as many characters
-- before it.
abbrev pub carried_back : List ℕ → ℕ → ℕ
carried_back text place = place_of_character text (length (chars (take place (fold_case text))))

-- The folding changes the number of bytes of character number j, counted from 0.
abbrev pub changes_length : List ℕ → ℕ → Bool
changes_length text j =
    let c = slice_index (chars text) j in not (length (encode_utf8 (fold_character c)) == length (encode_utf8 c))

-- The shift of character number j: where it begins in the folded text, and how many bytes longer that text is up to its
-- end.
abbrev pub shift_of : List ℕ → ℕ → Shift
shift_of text j =
    record {
      index = place_of_character (fold_case text) j;
      delta = pos (place_of_character (fold_case text) (j + 1)) -ℤ pos
          (place_of_character text (j + 1));
    }

-- A shift for each character whose number of bytes changes, in order.
abbrev pub shifts_of : List ℕ → List Shift
shifts_of text = map (shift_of text) (filter (changes_length text) (range_with_len 0 (length (chars text))))

-- A fact of every UTF-8 word that has these shifts, and whose bytes a `usize` can count.
abbrev pub ForEachWordWith : List Shift → (List ℕ → Type 0) → Type 0
ForEachWordWith shifts P = (word : List ℕ) → IsUtf8 word → length word < 2 ^ 64 → shifts ≡ shifts_of word → P word

-- The delta of the last shift whose index is below the place, or 0 where there is none.
abbrev pub delta_below : List Shift → ℕ → ℤ
delta_below shifts place =
    option_map_or (λ shift. shift.delta) (find (λ shift. nat_lt shift.index place) (reverse shifts)) (pos 0)
