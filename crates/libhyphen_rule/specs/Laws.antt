-- Laws of words written with their breaks.
use Rattle.std.specs.Prelude.{◌≡◌, ◌≢◌, ℕ, ◌+◌, ◌-◌, ◌<◌, ◌≤◌, not, false, List, [], ◌∷◌, ◌++◌, ◌||◌, ◌⊎◌, max, Bool, true, if◌then◌else◌, length, map, drop, take, filter, Option, None, Some, is_some, slice_index, slice_index_or, slice_range}
use Rattle.std.specs.Char.{is_ascii_digit}
use Rattle.std.specs.List.{list_any, range_with_len}
use Rattle.hyphenation_breaks.specs.Ascii.{digit_zero, equals_sign}
use Rattle.libhyphen_files.specs.Bytes.{before_nul}
use Rattle.libhyphen_files.specs.Files.{Rules, rules_of}
use Rattle.libhyphen_files.specs.Levels.{HasNoChanges, Level, pattern_at}
use Rattle.libhyphen_files.specs.Patterns.{Pattern}
use Rattle.hyphenation_breaks.specs.Dictionary.{TextMap}
use Rattle.libhyphen_rule.specs.Counting.{begins_key, counted_in, framed, shown}
use Rattle.libhyphen_rule.specs.declared.calls.CallMinima.{CallMinima}
use Rattle.libhyphen_rule.specs.Calls.{Answer, answer_of, at_least_two, digits_by_no_hyphen, found_by_call, least_of, no_hyphen_digit, part_minima, text_of_call}
use Rattle.libhyphen_rule.specs.Minima.{change_is_short_after, change_is_short_before, goes_after, goes_before, has_equals, is_equals, is_short_after, is_short_before}
use Rattle.libhyphen_rule.specs.OneLevel.{ChangeAt, digit_at, is_odd, level_changes, level_digits, offers}
use Rattle.libhyphen_rule.specs.Parts.{PartMinima}
use Rattle.libhyphen_rule.specs.Words.{characters, is_beside, written_word}

-- A text without its equals signs.
abbrev pub without_equals : List ℕ → List ℕ
without_equals text = filter (λ b. not (is_equals b)) text

-- A word without an equals sign and without changes, written with its breaks, is the word again once the equals signs
-- are taken out.
abbrev pub MarksTakenOut : Type 0
MarksTakenOut =
    (word digits : List ℕ) (changes : List (Option ChangeAt)) → has_equals word ≡ false
    → list_any is_some changes ≡ false
    → without_equals (written_word word digits changes) ≡ word

-- No word that a call writes loses a letter, by patterns that change none: without the equals signs it is the word again. The
-- word itself has no equals sign.
abbrev pub CallsLoseNoLetter : Type 0
CallsLoseNoLetter =
    (rules : Rules) (given : Option CallMinima) (text : List ℕ) (size : ℕ)
    → HasNoChanges rules.first_level.patterns → HasNoChanges rules.next_level.patterns
    → has_equals (take size text) ≡ false
    → without_equals (text_of_call rules given text size) ≡ take size text

-- ---- Marks with changes.

-- A text at a place of a word. It takes the place of the word's region from `before` bytes before the place to `behind`
-- bytes behind it.
pub record Mark : Type 0 where
  pub place : ℕ
  pub before : ℕ
  pub behind : ℕ
  pub text : List ℕ

-- The mark of the place behind the byte of a number: the text of the change; or an equals sign in the place of no byte.
abbrev pub mark_of : ℕ → Option ChangeAt → Mark
mark_of number None = record { place = number + 1; before = 0; behind = 0; text = equals_sign ∷ [] }
mark_of number (Some change) = record {
  place = number + 1;
  before = change.pos;
  behind = change.cut - change.pos;
  text = change.text;
}

abbrev pub mark_at : List (Option ChangeAt) → ℕ → Mark
mark_at changes number = mark_of number (slice_index_or changes number None)

-- The marks of the odd places behind the first bytes of a word, from left to right.
abbrev pub marks_in_first : List ℕ → List (Option ChangeAt) → ℕ → List Mark
marks_in_first digits changes bytes =
    map (mark_at changes) (filter (λ number. is_odd (slice_index digits number)) (range_with_len 0 bytes))

-- No mark reaches over another one. Each place lies behind the end of the region before it, and the place's own region begins
-- there or later. The first one begins at the word's first byte or later.
abbrev pub AreApart : ℕ → List Mark → Type 0
AreApart from [] = Unit {0}
AreApart from (mark ∷ marks) =
    (from < mark.place) × (from + mark.before ≤ mark.place) × AreApart (mark.place + mark.behind) marks

-- The rest of a word from a byte on, with the text of each mark in the place of its region.
abbrev pub with_marks : List ℕ → ℕ → List Mark → List ℕ
with_marks word from [] = drop from word
with_marks word from (mark ∷ marks) =
    slice_range word from (mark.place - mark.before) ++ mark.text ++ with_marks word (mark.place + mark.behind) marks

-- The written word has all bytes of the word except those in the regions of marks. Each mark's text is in the place of its
-- region.
abbrev pub NoLetterIsLost : Type 0
NoLetterIsLost =
    (word digits : List ℕ) (changes : List (Option ChangeAt)) → AreApart 0 (marks_in_first digits changes (length word))
    → written_word word digits changes ≡ with_marks word 0 (marks_in_first digits changes (length word))

-- ---- Places at which no break may be.

-- The place behind a byte of a word has too few letters before it, or too few behind it, by the minima of a call.
abbrev pub is_too_near : Rules → Option CallMinima → List ℕ → ℕ → ℕ → Bool
is_too_near rules given text size byte =
    is_short_before rules.utf8 (at_least_two (least_of rules.first_level.minima given).left) (before_nul text) byte
    || is_short_after rules.utf8 (at_least_two (least_of rules.first_level.minima given).right) (take size text) byte

-- A text without breaks begins or ends at the place behind a byte.
abbrev pub is_beside_some : Rules → List ℕ → ℕ → Bool
is_beside_some rules text byte = list_any (is_beside (before_nul text) byte) rules.first_level.no_hyphen

-- A place that is too near to an end of the word has the digit 0, if no change is left there. A place beside a text
-- without breaks has the digit 0, or a byte 0 where the caller gives minima. Both are even: no break is there.
abbrev pub ForbiddenPlacesAreEven : Type 0
ForbiddenPlacesAreEven =
    (rules : Rules) (given : Option CallMinima) (text : List ℕ) (size byte : ℕ)
    → byte < length (found_by_call rules given text size).digits
    → (is_too_near rules given text size byte ≡ true
    → slice_index_or (found_by_call rules given text size).changes byte None ≡ None
    → (slice_index (found_by_call rules given text size).digits byte ≡ digit_zero)
    × (is_odd (slice_index (digits_by_no_hyphen rules given text (found_by_call rules given text size).digits) byte) ≡ false))
    × (is_beside_some rules text byte ≡ true
    → (slice_index (digits_by_no_hyphen rules given text (found_by_call rules given text size).digits) byte ≡ no_hyphen_digit given)
    × (is_odd (slice_index (digits_by_no_hyphen rules given text (found_by_call rules given text size).digits) byte) ≡ false))

-- A place with too few letters before it keeps its change only if that has enough before its region and in its text: so it is
-- not short by the left minimum of a call. A place with too few letters behind it keeps none that is short by the right one.
abbrev pub ChangesKeepMinima : Type 0
ChangesKeepMinima =
    (rules : Rules) (given : Option CallMinima) (text : List ℕ) (size byte : ℕ) (change : ChangeAt)
    → slice_index_or (found_by_call rules given text size).changes byte None ≡ Some change
    → (is_short_before rules.utf8 (at_least_two (least_of rules.first_level.minima given).left) (before_nul text) byte ≡ true
    → change_is_short_before rules.utf8 (at_least_two (least_of rules.first_level.minima given).left) (before_nul text) (byte + 1) change ≡ false)
    × (is_short_after rules.utf8 (at_least_two (least_of rules.first_level.minima given).right) (take size text) byte ≡ true
    → change_is_short_after rules.utf8 (at_least_two (least_of rules.first_level.minima given).right) (before_nul text) (byte + 1) change ≡ false)

-- ---- As many digits as letters.

-- A call finds one digit and one change, or none, for each byte of the word.
abbrev pub HasEachByte : Rules → Option CallMinima → List ℕ → ℕ → Type 0
HasEachByte rules given text size =
    (length (found_by_call rules given text size).digits ≡ length (take size text))
    × (length (found_by_call rules given text size).changes ≡ length (take size text))

-- The number of characters of a word: in other charsets than UTF-8 each byte is one.
abbrev pub size_in_characters : Rules → List ℕ → ℕ
size_in_characters rules word = if rules.utf8 then characters word else length word

-- The answer has one digit and one change, or none, for each character of the word.
abbrev pub HasEachCharacter : Rules → List ℕ → Answer → Type 0
HasEachCharacter rules word answer =
    (length answer.digits ≡ size_in_characters rules word) × (length answer.changes ≡ size_in_characters rules word)

-- The finds lie within the word: there are as many digits and changes as bytes, and in an answer as many as
-- characters. By one level no break is behind the word's last byte.
abbrev pub DigitsLieWithinTheWord : Type 0
DigitsLieWithinTheWord =
    ((rules : Rules) (given : Option CallMinima) (text : List ℕ) (size : ℕ)
    → HasEachByte rules given text size
    × ((answer : Answer) → answer_of rules given text size ≡ Some answer
    → HasEachCharacter rules (take size text) answer))
    × ((level : Level) (word : List ℕ) (byte : ℕ) → byte + 1 ≡ length word
    → slice_index (level_digits level word) byte ≡ digit_zero)

-- ---- Regions of changes.

-- By one level, the change behind a byte of a word.
abbrev pub IsChangeAt : Level → List ℕ → ℕ → ChangeAt → Type 0
IsChangeAt level word byte change = slice_index_or (level_changes level word) byte None ≡ Some change

-- The region of a change behind a byte begins at this byte of the word.
abbrev pub region_begin : ℕ → ChangeAt → ℕ
region_begin byte change = byte + 1 - change.pos

-- Each region begins within the word, at its place or before it, and has a byte or more. A file may ask for a region
-- that goes on behind the word. Regions of two places do not overlap: one ends where the other begins, or before that.
abbrev pub RegionsLieWithinTheWord : Type 0
RegionsLieWithinTheWord =
    (level : Level) (word : List ℕ)
    → ((byte : ℕ) (change : ChangeAt) → IsChangeAt level word byte change
    → (change.pos ≤ byte + 1) × (1 ≤ change.cut) × (region_begin byte change < length word))
    × ((byte other : ℕ) (change next : ChangeAt) → IsChangeAt level word byte change
    → IsChangeAt level word other next → byte ≢ other → region_begin byte change ≤ region_begin other next
    → region_begin byte change + change.cut ≤ region_begin other next)

-- ---- Patterns that hide no digit.

-- The digit that a pattern, if there is one, gives to a place of its key, from 0 before the key; 0 if it gives none.
abbrev pub digit_of_pattern : ℕ → ℕ → Option Pattern → ℕ
digit_of_pattern bytes number None = digit_zero
digit_of_pattern bytes number (Some pattern) = max digit_zero (slice_index (take (bytes + 1) pattern.digits) number)

abbrev pub digit_of_key : TextMap (List Pattern) → List ℕ → ℕ → ℕ
digit_of_key patterns key number = digit_of_pattern (length key) number (pattern_at patterns key)

-- Patterns are closed if none hides a digit. A key that ends a beginning of a key gives no place more than that beginning does
-- itself.
abbrev pub IsClosed : TextMap (List Pattern) → Type 0
IsClosed patterns =
    (text : List ℕ) → begins_key patterns text ≡ true → (start number : ℕ) → start < length text
    → digit_of_key patterns (drop start text) number ≤ digit_of_key patterns text (start + number)

-- A text of a frame, which begins at the place or before it, gives it a digit.
pub record GivesDigit (patterns : TextMap (List Pattern)) (frame : List ℕ) (place start end digit : ℕ) : Type 0 where
  pub nonempty : start < end
  pub within : end ≤ length frame
  pub before : start ≤ place
  pub gives : digit_of_key patterns (slice_range frame start end) (place - start) ≡ digit

-- The digit of a place is the greatest that any key in the frame gives to it, or 0.
pub record IsGreatestDigit (patterns : TextMap (List Pattern)) (frame : List ℕ) (place digit : ℕ) : Type 0 where
  pub most : (start end other : ℕ) → GivesDigit patterns frame place start end other → other ≤ digit
  pub given : (digit ≡ digit_zero)
      ⊎ ((start : ℕ) × (end : ℕ) × GivesDigit patterns frame place start end digit)

-- In closed patterns it makes no difference that only the longest beginning counts at each end. The digit of each place of a
-- frame is the greatest that any key gives to it.
abbrev pub ClosedPatternsReadAlike : Type 0
ClosedPatternsReadAlike =
    (patterns : TextMap (List Pattern)) → IsClosed patterns → (frame : List ℕ) (place : ℕ)
    → IsGreatestDigit patterns frame place (digit_at (offers (counted_in patterns frame)) place)

-- ---- Whence a break comes.

-- The place behind a byte of a word is within a part of the word, which goes from one byte to another one. In the part's frame
-- a key of the level gives the place this digit.
pub record GivesInPart (level : Level) (word : List ℕ) (byte digit begin end : ℕ) : Type 0 where
  pub from : begin ≤ byte
  pub to : byte + 1 < end
  pub within : end ≤ length word
  pub start : ℕ
  pub stop : ℕ
  pub gives : GivesDigit level.patterns (framed (slice_range word begin end)) (byte - begin + 2) start stop digit

-- The next level gives the place its digit, in a part whose text is asked; in the text digits of the word may be dots. At an end
-- of the part that is within the word, the place keeps the minimum of parts: it has enough letters, or its change has.
pub record BreaksPart (rules : Rules) (least : PartMinima) (word : List ℕ) (byte digit begin end : ℕ) : Type 0 where
  pub given : GivesInPart rules.next_level word byte digit begin end
  pub text : List ℕ
  pub seen : map shown text ≡ map shown (slice_range word begin end)
  pub left : begin ≢ 0
      → goes_before rules.utf8 least.left (before_nul text) (byte - begin)
      (slice_index_or (level_changes rules.next_level text) (byte - begin) None) ≡ false
  pub right : end ≢ length word
      → goes_after rules.utf8 least.right text (before_nul text) (byte - begin)
      (slice_index_or (level_changes rules.next_level text) (byte - begin) None) ≡ false

-- Each break of a call is one of the first level, or one of the next level in a part of the word. The first level changes no
-- letters: else a part may have letters that the word has not.
abbrev pub BreaksComeFromPatterns : Type 0
BreaksComeFromPatterns =
    (rules : Rules) (given : Option CallMinima) (text : List ℕ) (size byte : ℕ) → HasNoChanges rules.first_level.patterns
    → byte < length (found_by_call rules given text size).digits
    → is_odd (slice_index (digits_by_no_hyphen rules given text (found_by_call rules given text size).digits) byte) ≡ true
    → (begin : ℕ) × (end : ℕ)
    × (GivesInPart rules.first_level (take size text) byte
    (slice_index (digits_by_no_hyphen rules given text (found_by_call rules given text size).digits) byte) begin end
    ⊎ BreaksPart rules (part_minima (least_of rules.first_level.minima given)) (take size text) byte
    (slice_index (digits_by_no_hyphen rules given text (found_by_call rules given text size).digits) byte) begin end)

-- ---- The digits of an answer.

-- By the patterns of any file, each digit of an answer is one of ASCII; or it is beside a text without breaks.
abbrev pub AnswersHaveAsciiDigits : Type 0
AnswersHaveAsciiDigits =
    (file : List ℕ) (given : Option CallMinima) (text : List ℕ) (size : ℕ) (answer : Answer)
    → answer_of (rules_of file) given text size ≡ Some answer
    → (place : ℕ) → place < length answer.digits
    → (is_ascii_digit (slice_index answer.digits place) ≡ true) ⊎ (slice_index answer.digits place ≡ no_hyphen_digit given)
