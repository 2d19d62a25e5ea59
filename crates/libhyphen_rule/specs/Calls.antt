-- The answers of libhyphen's calls for a word.
-- Source: libhyphen 2.8.8, hyphen.h and hyphen.c.
use Rattle.std.specs.Prelude.{ℕ, ℤ, pos, ◌+◌, ◌&&◌, ◌≡◌, ◌<◌, ◌⊎◌, int_le, int_lt, nat_lt, Bool, true, false, if◌then◌else◌, List, [], ◌∷◌, ◌++◌, length, map, replicate, take, drop, Option, None, Some, slice_index}
use Rattle.std.specs.Char.{is_ascii_digit}
use Rattle.std.specs.List.{list_any, range_with_len}
use Rattle.hyphenation_breaks.specs.Ascii.{digit_zero, dot}
use Rattle.libhyphen_files.specs.Bytes.{before_nul, continues}
use Rattle.libhyphen_files.specs.Files.{Rules}
use Rattle.libhyphen_files.specs.Levels.{Level}
use Rattle.libhyphen_files.specs.Vectors.{BeginsSomeKey}
use Rattle.libhyphen_files.specs.declared.minima.Minima.{Minima}
use Rattle.libhyphen_rule.specs.OneLevel.{ChangeAt, digits_given_by}
use Rattle.libhyphen_rule.specs.Parts.{Found, PartMinima, word_found, without_left, without_right}
use Rattle.libhyphen_rule.specs.Words.{changes_of_characters, digits_beside, digits_of_characters, written_word}
use Rattle.libhyphen_rule.specs.declared.calls.CallMinima.{CallMinima}

-- ---- The minima of a call.

unfoldable pub greater : ℤ → ℤ → ℤ
greater a b = if int_le a b then b else a

-- The minima of the first level, or of each the greater one of these and the caller's.
abbrev pub least_of : Minima → Option CallMinima → CallMinima
least_of own None = record {
  left = own.left;
  right = own.right;
  compound_left = own.compound_left;
  compound_right = own.compound_right;
}
least_of own (Some given) = record {
  left = greater given.left own.left;
  right = greater given.right own.right;
  compound_left = greater given.compound_left own.compound_left;
  compound_right = greater given.compound_right own.compound_right;
}

-- A minimum of a whole word that is below 1 counts as 2.
unfoldable pub at_least_two : ℤ → ℤ
at_least_two least = if int_lt (pos 0) least then least else pos 2

-- ---- The digits and the changes.

-- A word is the first bytes of a text. The text behind it counts for minima and texts without breaks, up to the first byte 0.
abbrev pub without_ends : Bool → CallMinima → List ℕ → List ℕ → Found → Found
without_ends utf8 least word text found =
    without_right utf8 (at_least_two least.right) word text
    (without_left utf8 (at_least_two least.left) text found)

abbrev pub part_minima : CallMinima → PartMinima
part_minima least = record { left = least.compound_left; right = least.compound_right }

-- The finds of both levels in a word, without the places that are too near to its ends.
abbrev pub found_within : Rules → CallMinima → List ℕ → ℕ → Found
found_within rules least text size =
    without_ends rules.utf8 least (take size text) (before_nul text) (word_found rules (part_minima least) (take size text) (drop size text))

unfoldable pub found_by_call : Rules → Option CallMinima → List ℕ → ℕ → Found
found_by_call rules given text size = found_within rules (least_of rules.first_level.minima given) text size

-- The digit of a place beside a text without breaks: 0, or a byte 0 where the caller gives minima.
abbrev pub no_hyphen_digit : Option CallMinima → ℕ
no_hyphen_digit None = digit_zero
no_hyphen_digit (Some given) = 0

abbrev pub digits_by_no_hyphen : Rules → Option CallMinima → List ℕ → List ℕ → List ℕ
digits_by_no_hyphen rules given text digits = digits_beside rules.first_level.no_hyphen (no_hyphen_digit given) (before_nul text) digits

-- The answer of a call: for each character of the word the digit and the change of the place behind it. It also says whether
-- any change was made, also one that was taken away. In other charsets than UTF-8 each byte is a character.
pub record Answer : Type 0 where
  pub digits : List ℕ
  pub changes : List (Option ChangeAt)
  pub made : Bool

-- An answer with these digits, and without changes.
abbrev pub plain_answer : List ℕ → Answer
plain_answer digits = record { digits = digits; changes = replicate (length digits) None; made = false }

-- The changes of the characters of a word.
abbrev pub changes_in_characters : List ℕ → ℕ → List (Option ChangeAt) → List (Option ChangeAt)
changes_in_characters text size changes = changes_of_characters (take size text) (text ++ 0 ∷ []) changes

abbrev pub answer_in_bytes : Found → List ℕ → Answer
answer_in_bytes found digits = record { digits = digits; changes = found.changes; made = found.made }

abbrev pub answer_in_characters : List ℕ → ℕ → Found → List ℕ → Answer
answer_in_characters text size found digits = record {
  digits = digits_of_characters (take size text) digits;
  changes = changes_in_characters text size found.changes;
  made = found.made;
}

abbrev pub answer_by : Rules → List ℕ → ℕ → Found → List ℕ → Answer
answer_by rules text size found digits =
    if rules.utf8 then answer_in_characters text size found digits else answer_in_bytes found digits

abbrev pub answer_of_found : Rules → Option CallMinima → List ℕ → ℕ → Found → Answer
answer_of_found rules given text size found =
    answer_by rules text size found (digits_by_no_hyphen rules given text found.digits)

-- A text in UTF-8 begins within a character.
abbrev pub begins_within : Rules → List ℕ → Bool
begins_within rules text = rules.utf8 && continues (slice_index text 0)

-- The answer of a call; none if the text begins within a character.
unfoldable pub answer_of : Rules → Option CallMinima → List ℕ → ℕ → Option Answer
answer_of rules given text size =
    if begins_within rules text then None
    else Some (answer_of_found rules given text size (found_by_call rules given text size))

-- ---- Short words.

-- A byte of the word's frame begins a key of the level, so a pattern of it may count.
abbrev pub MayCount : Level → List ℕ → Type 0
MayCount level word =
    BeginsSomeKey level.patterns dot
    ⊎ ((byte : ℕ) × (byte < length word) × BeginsSomeKey level.patterns (slice_index word byte))

-- A pattern of a level may count.
abbrev pub SomeMayCount : Rules → List ℕ → Type 0
SomeMayCount rules word = MayCount rules.first_level word ⊎ MayCount rules.next_level word

-- A short word may have to be broken in the general way: it begins within a character, has a digit, or a pattern may count.
abbrev pub IsNotSimple : Rules → List ℕ → ℕ → Type 0
IsNotSimple rules text size =
    (begins_within rules text ≡ true) ⊎ ((list_any is_ascii_digit (take size text) ≡ true) ⊎ SomeMayCount rules (take size text))

-- ---- The word, written.

-- Where the caller gives minima, the word is written before places beside texts without breaks are taken away.
abbrev pub digits_written : Rules → Option CallMinima → List ℕ → Found → List ℕ
digits_written rules None text found = digits_by_no_hyphen rules None text found.digits
digits_written rules (Some given) text found = found.digits

abbrev pub text_of_found : Rules → Option CallMinima → List ℕ → ℕ → Found → List ℕ
text_of_found rules given text size found =
    written_word (take size text) (digits_written rules given text found) found.changes

-- The word with an equals sign at each of its breaks, and with the texts of changes.
unfoldable pub text_of_call : Rules → Option CallMinima → List ℕ → ℕ → List ℕ
text_of_call rules given text size = text_of_found rules given text size (found_by_call rules given text size)

-- ---- The oldest call.

-- The digits of the patterns of the first level that change nothing. Those of the places behind the first byte and behind the
-- last two are left out.
abbrev pub inner_digit : List ℕ → ℕ → ℕ
inner_digit digits byte =
    if nat_lt 0 byte && nat_lt (byte + 2) (length digits) then slice_index digits byte else digit_zero

abbrev pub inner_digits : List ℕ → List ℕ
inner_digits digits = map (inner_digit digits) (range_with_len 0 (length digits))

unfoldable pub plain_digits : Level → List ℕ → List ℕ
plain_digits level word = inner_digits (digits_given_by true level.patterns word)
