-- Minima: places that have too few letters on one side.
-- Source: libhyphen 2.8.8, hyphen.c.
use Rattle.std.specs.Prelude.{ℕ, ℤ, pos, ◌+◌, ◌-◌, ◌==◌, ◌&&◌, ◌+ℤ◌, int_lt, nat_lt, Bool, if◌then◌else◌, List, length, map, drop, Option, None, Some, slice_index, slice_index_or}
use Rattle.std.specs.List.{after_first, before_first, list_any, range_with_len}
use Rattle.hyphenation_breaks.specs.Ascii.{digit_zero, equals_sign}
use Rattle.libhyphen_rule.specs.Letters.{characters_from, digits_at_begin, digits_at_end, letters, letters_in_first, letters_in_hundred}
use Rattle.libhyphen_rule.specs.OneLevel.{ChangeAt}

-- A text has an equals sign; what is before the first one, and what after it.
abbrev pub is_equals : ℕ → Bool
is_equals b = b == equals_sign

abbrev pub has_equals : List ℕ → Bool
has_equals text = list_any is_equals text

-- Fewer letters than a minimum. A minimum below 1 is never undercut by letters.
abbrev pub is_below : ℕ → ℤ → Bool
is_below letters least = int_lt (pos letters) least

-- The place behind a byte has too few letters before it. `text` is the word with what follows it. Digits at its beginning are
-- no letters.
abbrev pub is_short_before : Bool → ℤ → List ℕ → ℕ → Bool
is_short_before utf8 least text byte =
    nat_lt byte (length text)
    && is_below (letters_in_first utf8 text (byte + 1)) (least +ℤ pos (digits_at_begin text))

-- The place behind a byte has too few letters behind it. Digits at the word's end are no letters. The place behind the first
-- byte always has enough.
abbrev pub is_short_after : Bool → ℤ → List ℕ → ℕ → Bool
is_short_after utf8 least word byte =
    nat_lt 0 byte && is_below (characters_from utf8 word (byte + 1)) (least +ℤ pos (digits_at_end word))

-- A change keeps its place if it has enough letters itself, or its text has no equals sign. Before the break these are the
-- letters before its region and those of its text before the equals sign. Behind the break they are those behind its region, in
-- 100 bytes at most, and those of its text behind the equals sign. A change has too few letters before its break, where this
-- number of bytes is before its place.
abbrev pub change_is_short_before : Bool → ℤ → List ℕ → ℕ → ChangeAt → Bool
change_is_short_before utf8 least text end change =
    has_equals change.text
    && is_below
    (letters_in_first utf8 text (end - change.pos) + letters utf8 (before_first is_equals change.text)) least

-- The same behind its break.
abbrev pub change_is_short_after : Bool → ℤ → List ℕ → ℕ → ChangeAt → Bool
change_is_short_after utf8 least text end change =
    has_equals change.text
    && is_below
    (letters_in_hundred utf8 (drop (end - change.pos + change.cut) text)
    + letters utf8 (after_first is_equals change.text)) least

abbrev pub goes_before : Bool → ℤ → List ℕ → ℕ → Option ChangeAt → Bool
goes_before utf8 least text byte None = is_short_before utf8 least text byte
goes_before utf8 least text byte (Some change) =
    is_short_before utf8 least text byte && has_equals change.text
    && is_below
    (letters_in_first utf8 text (byte + 1 - change.pos) + letters utf8 (before_first is_equals change.text)) least

abbrev pub goes_after : Bool → ℤ → List ℕ → List ℕ → ℕ → Option ChangeAt → Bool
goes_after utf8 least word text byte None = is_short_after utf8 least word byte
goes_after utf8 least word text byte (Some change) =
    is_short_after utf8 least word byte && has_equals change.text
    && is_below
    (letters_in_hundred utf8 (drop (byte + 1 - change.pos + change.cut) text)
    + letters utf8 (after_first is_equals change.text)) least

-- Digits without those of the bytes that a test names: they are 0 then.
abbrev pub digits_but : (ℕ → Bool) → List ℕ → List ℕ
digits_but goes digits =
    map (λ byte. if goes byte then digit_zero else slice_index digits byte) (range_with_len 0 (length digits))

-- Changes without those of the bytes that a test names.
abbrev pub changes_but : (ℕ → Bool) → List (Option ChangeAt) → List (Option ChangeAt)
changes_but goes changes =
    map (λ byte. if goes byte then None else slice_index_or changes byte None) (range_with_len 0 (length changes))

-- The bytes of a word behind which a minimum takes the place away.
abbrev pub left_goes : Bool → ℤ → List ℕ → List (Option ChangeAt) → ℕ → Bool
left_goes utf8 least text changes byte = goes_before utf8 least text byte (slice_index_or changes byte None)

abbrev pub right_goes : Bool → ℤ → List ℕ → List ℕ → List (Option ChangeAt) → ℕ → Bool
right_goes utf8 least word text changes byte = goes_after utf8 least word text byte (slice_index_or changes byte None)
