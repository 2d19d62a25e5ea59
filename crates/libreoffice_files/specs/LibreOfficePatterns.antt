-- The patterns of a `.dic` of LibreOffice: a key, its values, and maybe a change of letters at one of them.
-- Sources: libhyphen 2.8.8, hyphen.c and README.nonstandard; L. Németh, Automatic non-standard hyphenation in
-- OpenOffice.org, TUGboat 27:1 (2006).
use Rattle.std.specs.Prelude.{ℕ, ◌+◌, ◌-◌, ◌^◌, ◌%◌, ◌==◌, ◌&&◌, ◌||◌, nat_le, nat_lt, Bool, false, if◌then◌else◌, List, [], ◌∷◌, ◌++◌}
use Rattle.std.specs.Prelude.{length, drop, filter, fold, map, count_by, Option, Some, None, option_map, option_and_then, Result, Ok, Err}
use Rattle.std.specs.Prelude.{slice_get, slice_index}
use Rattle.std.specs.Option.{option_or}
use Rattle.std.specs.List.{list_any, find, filter_map, slice_split}
use Rattle.std.specs.Str.{trim}
use Rattle.hyphenation_breaks.specs.Ascii.{comma, dot, slash, digit_zero, equals_sign}
use Rattle.hyphenation_breaks.specs.Invariant.{has_letter}
use Rattle.hyphenation_grammar.specs.Lines.{is_digit, is_same}
use Rattle.libreoffice_files.specs.LibreOfficeLines.{DicLine, split_at_byte, number_below}
use Rattle.pattern_results.specs.Texts.{letters}
use Rattle.libreoffice_files.specs.declared.lines.LineKind.{LineKind}
use Rattle.libreoffice_files.specs.declared.lines.LineKind.TheVariants.{Pattern}
use Rattle.pattern_results.specs.declared.notes.NoteKind.{NoteKind}
use Rattle.pattern_results.specs.declared.notes.NoteKind.TheVariants.{ChangeNumber, ChangeParts, ChangeWithoutEquals, ChangePastKey, ChangeWithoutValue}
use Rattle.libreoffice_files.specs.declared.value.Value.{Value}
use Rattle.libreoffice_files.specs.declared.change.PlacedChange.{PlacedChange}
use Rattle.libreoffice_files.specs.declared.change.Range.{Range}

-- The values of a pattern, each at its place, and a change of one of them.
pub record Spelt : Type 0 where
  pub values : List Value
  pub change : Option PlacedChange

-- ---- Values.

-- A text begins with a digit.
abbrev pub begins_with_digit : List ℕ → Bool
begins_with_digit [] = false
begins_with_digit (b ∷ bs) = is_digit b

-- A digit other than 0, at its place. 0 is no value.
abbrev pub value_of_digit : ℕ → ℕ → List Value
value_of_digit at digit = if digit == digit_zero then [] else (record { place = at; value = digit - digit_zero }) ∷ []

-- The digits of a pattern other than 0, each with the number of letters before it plus `at`, counted in bytes. If several
-- digits are in one place, the last one counts.
abbrev pub last_values : ℕ → List ℕ → List Value
last_values at [] = []
last_values at (b ∷ bs) =
    if is_digit b then (if begins_with_digit bs then last_values at bs else value_of_digit at b ++ last_values at bs)
    else last_values (at + 1) bs

-- ---- The range of a change.

-- A byte begins a character of UTF-8.
abbrev pub begins_char : ℕ → Bool
begins_char b = nat_lt b 128 || nat_le 192 b

-- The places of the characters of a text, and its end. The text begins at the place `at`.
abbrev pub char_places : ℕ → List ℕ → List ℕ
char_places at [] = at ∷ []
char_places at (b ∷ bs) = if begins_char b then at ∷ char_places (at + 1) bs else char_places (at + 1) bs

-- The place that many characters after a place of a key. None if the key has fewer.
abbrev pub place_after : List ℕ → ℕ → ℕ → Option ℕ
place_after key at count = slice_get (char_places at (drop at key)) count

-- 1 for a dot, and else 0.
abbrev pub dots : ℕ → ℕ
dots b = if b == dot then 1 else 0

-- The number of a key's letters: of its characters without a dot at each end.
abbrev pub letter_count : List ℕ → ℕ
letter_count key = count_by begins_char key - dots (slice_index key 0) - dots (slice_index key (length key - 1))

-- The range of that many characters from a place on. None if the key has fewer.
abbrev pub range_from : List ℕ → ℕ → ℕ → Option Range
range_from key begin count =
    option_map (λ end. record { begin = begin; after_first = place_after key begin 1; end = end })
    (place_after key begin count)

-- The range of that many letters from letter number start on, counted from 1. A first dot is no letter.
abbrev pub range_of : List ℕ → ℕ → ℕ → Option Range
range_of key start count =
    if start == 0 then None
    else option_and_then (λ begin. range_from key begin count)
    (place_after key 0 (start - 1 + dots (slice_index key 0)))

-- ---- The value of a change.

-- An odd value in a range, both ends included.
abbrev pub is_odd_in : Range → Value → Bool
is_odd_in range v = v.value % 2 == 1 && nat_le range.begin v.place && nat_le v.place range.end

-- There is a place, and it is this one.
abbrev pub is_place : Option ℕ → ℕ → Bool
is_place None place = false
is_place (Some at) place = at == place

-- An odd value after the range's first letter, within the range.
abbrev pub is_after_first : Range → Value → Bool
is_after_first range v = is_odd_in range v && is_place range.after_first v.place

-- The value that takes a change: the odd one after the range's first letter, or else the first odd one in the range.
abbrev pub value_in : List Value → Range → Option Value
value_in values range = option_or (find (is_after_first range) values) (find (is_odd_in range) values)

-- Several values could take a change.
abbrev pub are_several : List Value → Range → Bool
are_several values range = nat_lt 1 (count_by (is_odd_in range) values)

-- ---- Changes.

-- The replacement, which is before the first comma, and the numbers after it.
abbrev pub replacement_and_numbers : List ℕ → Option (List ℕ × List ℕ) → List ℕ × Option (List ℕ)
replacement_and_numbers text None = (text, None)
replacement_and_numbers text (Some parts) = (parts.0, Some parts.1)

-- Two numbers, if both could be read.
abbrev pub both_numbers : Option ℕ → Option ℕ → Result (ℕ × ℕ) NoteKind
both_numbers (Some start) (Some count) = Ok (start, count)
both_numbers start count = Err ChangeNumber

-- The two numbers with exactly one comma between them.
abbrev pub two_numbers : Option (List ℕ × List ℕ) → Result (ℕ × ℕ) NoteKind
two_numbers None = Err ChangeParts
two_numbers (Some parts) =
    if list_any (λ b. b == comma) parts.1 then Err ChangeParts
    else both_numbers (number_below (2 ^ 64) parts.0) (number_below (2 ^ 64) parts.1)

-- The first letter of the range, and the number of its letters. Without numbers it has all letters of the key.
abbrev pub start_and_count : List ℕ → Option (List ℕ) → Result (ℕ × ℕ) NoteKind
start_and_count key None = Ok (1, letter_count key)
start_and_count key (Some numbers) = two_numbers (split_at_byte comma numbers)

-- The two halves of a replacement that has exactly one `=`.
abbrev pub halves_of : List ℕ → Option (List ℕ × List ℕ)
halves_of replacement =
    option_and_then (λ parts. if list_any (λ b. b == equals_sign) parts.1 then None else Some parts) (split_at_byte equals_sign replacement)

-- The change of a value: the two halves replace the range, and the word breaks between them.
abbrev pub change_at_value : Range → List ℕ × List ℕ → Value → PlacedChange
change_at_value range halves value = record {
  place = value.place;
  change = record {
    left = value.place - range.begin;
    right = range.end - value.place;
    substitution = halves.0 ++ halves.1;
    breakpoint = length halves.0;
  };
}

-- The change of a value, if there is a value.
abbrev pub with_value : Range → List ℕ × List ℕ → Bool → Option Value → Result (PlacedChange × Bool) NoteKind
with_value range halves several None = Err ChangeWithoutValue
with_value range halves several (Some value) = Ok (change_at_value range halves value, several)

-- The change of a range.
abbrev pub change_in : List Value → List ℕ × List ℕ → Option Range → Result (PlacedChange × Bool) NoteKind
change_in values halves None = Err ChangePastKey
change_in values halves (Some range) = with_value range halves (are_several values range) (value_in values range)

-- The change of a replacement's halves and of its numbers.
abbrev pub change_by_halves : List ℕ → List Value → ℕ × ℕ → Option (List ℕ × List ℕ) → Result (PlacedChange × Bool) NoteKind
change_by_halves key values numbers None = Err ChangeWithoutEquals
change_by_halves key values numbers (Some halves) = change_in values halves (range_of key numbers.0 numbers.1)

-- The change of a replacement and its numbers.
abbrev pub change_by_numbers : List ℕ → List Value → List ℕ → Result (ℕ × ℕ) NoteKind → Result (PlacedChange × Bool) NoteKind
change_by_numbers key values replacement (Err what) = Err what
change_by_numbers key values replacement (Ok numbers) =
    change_by_halves key values numbers (halves_of replacement)

-- The change of a replacement and the text of its numbers.
abbrev pub change_by_parts : List ℕ → List Value → List ℕ × Option (List ℕ) → Result (PlacedChange × Bool) NoteKind
change_by_parts key values parts = change_by_numbers key values parts.0 (start_and_count key parts.1)

-- The change that the text after a slash gives, and whether several values could take it. A change that can't be read
-- gives a note.
abbrev pub change_of : List ℕ → List Value → List ℕ → Result (PlacedChange × Bool) NoteKind
change_of key values text = change_by_parts key values (replacement_and_numbers text (split_at_byte comma text))

-- ---- Patterns.

-- A slash splits a pattern from its change if a `=` follows it.
abbrev pub split_if_change : List ℕ → Option (List ℕ × List ℕ) → List ℕ × Option (List ℕ)
split_if_change line None = (line, None)
split_if_change line (Some parts) = if list_any (λ b. b == equals_sign) parts.1 then (parts.0, Some parts.1) else (line, None)

abbrev pub split_at_slash : List ℕ → List ℕ × Option (List ℕ)
split_at_slash line = split_if_change line (split_at_byte slash line)

-- Values and a change. None if the change can't be carried.
abbrev pub spelt_with : List Value → Option (Result (PlacedChange × Bool) NoteKind) → Option Spelt
spelt_with values None = Some (record { values = values; change = None })
spelt_with values (Some (Ok found)) = Some (record { values = values; change = Some found.0 })
spelt_with values (Some (Err what)) = None

-- A key, and its values with a change or none. None if the change can't be carried.
abbrev pub key_with_values : List ℕ → List Value → Option (List ℕ) → Option (List ℕ × Spelt)
key_with_values key values change =
    option_map (λ spelt. (key, spelt)) (spelt_with values (option_map (change_of key values) change))

-- A key has a character other than a dot. A text without one is no key.
abbrev pub pattern_with : List ℕ → List Value → Option (List ℕ) → Option (List ℕ × Spelt)
pattern_with key values change = if has_letter key then key_with_values key values change else None

abbrev pub pattern_of_parts : List ℕ × Option (List ℕ) → Option (List ℕ × Spelt)
pattern_of_parts parts = pattern_with (letters parts.0) (last_values 0 parts.0) parts.1

-- The key and the values of a pattern.
abbrev pub pattern_of : List ℕ → Option (List ℕ × Spelt)
pattern_of text = pattern_of_parts (split_at_slash text)

-- The key and the values of a line, if it is a pattern.
abbrev pub pattern_by : LineKind → List ℕ → Option (List ℕ × Spelt)
pattern_by Pattern text = pattern_of text
pattern_by kind text = None

abbrev pub pattern_of_line : DicLine → Option (List ℕ × Spelt)
pattern_of_line line = pattern_by line.kind line.text

-- The patterns of lines, from both levels.
abbrev pub patterns_of : List DicLine → List (List ℕ × Spelt)
patterns_of lines = filter_map pattern_of_line lines

-- ---- Texts without breaks at their ends.

-- The last values that a key has.
abbrev pub last_of : List ℕ → List (List ℕ × Spelt) → Option Spelt
last_of key [] = None
last_of key (p ∷ ps) = option_or (last_of key ps) (if is_same p.0 key then Some p.1 else None)

-- A value strictly within a key of that length.
abbrev pub is_within : ℕ → Value → Bool
is_within len v = nat_lt 0 v.place && nat_lt v.place len

-- The value 8 at both ends of a key of that length, with the old values strictly within it.
abbrev pub forbidding : ℕ → List Value → List Value
forbidding len values =
    record { place = 0; value = 8 } ∷ filter (is_within len) values ++ (record { place = len; value = 8 }) ∷ []

-- The values that forbid breaks at both ends of a text that had the old ones: an 8 at each end. A change stays.
abbrev pub forbidden : List ℕ → Option Spelt → Spelt
forbidden text None = record { values = forbidding (length text) []; change = None }
forbidden text (Some spelt) = record { values = forbidding (length text) spelt.values; change = spelt.change }

-- One text more without breaks at its ends. It has a character other than a dot.
abbrev pub with_forbidden : List (List ℕ × Spelt) → List ℕ → List (List ℕ × Spelt)
with_forbidden patterns text =
    if has_letter text then patterns ++ (text, forbidden text (last_of text patterns)) ∷ [] else patterns

-- All texts that NOHYPHEN names, with a comma between them and maybe white space around them.
abbrev pub with_all_forbidden : List (List ℕ × Spelt) → List ℕ → List (List ℕ × Spelt)
with_all_forbidden patterns texts = fold with_forbidden patterns (map trim (slice_split (λ b. b == comma) texts))
