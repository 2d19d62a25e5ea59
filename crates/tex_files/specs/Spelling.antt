-- Words of groups: the key and the values of a pattern, the breaks of a word with hyphens, and the tests that both must
-- pass.
-- Source: F. M. Liang, Word Hy-phen-a-tion by Com-put-er (1983); D. E. Knuth, The TeXbook, appendix H.
use Rattle.std.specs.Prelude.{ℕ, ◌+◌, ◌-◌, ◌==◌, ◌&&◌, ◌||◌, Bool, true, false, not, if◌then◌else◌, List, [], ◌∷◌, ◌++◌, map, Option, Some, None}
use Rattle.std.specs.Option.{option_or}
use Rattle.std.specs.List.{list_any}
use Rattle.std.specs.Char.{is_ascii, is_ascii_alphabetic}
use Rattle.std.specs.Str.{is_utf8}
use Rattle.hyphenation_breaks.specs.Ascii.{apostrophe, hyphen, dot, digit_zero, backslash, caret, open_brace, close_brace}
use Rattle.hyphenation_hyphenator.specs.Folding.{fold_case}
use Rattle.hyphenation_breaks.specs.Break.{Break, Change, plain_break}
use Rattle.hyphenation_grammar.specs.Lines.{is_digit}
use Rattle.hyphenation_breaks.specs.Invariant.{has_letter, are_entries, are_listed}
use Rattle.hyphenation_breaks.specs.declared.entry.Entry.{Entry}
use Rattle.pattern_results.specs.Texts.{letters}
use Rattle.pattern_results.specs.declared.errors.FileCause.{FileCause}
use Rattle.pattern_results.specs.declared.errors.FileCause.TheVariants.{Command, Caret, Symbol, TwoInOnePlace, NoLetters, NotUtf8}
use Rattle.tex_files.specs.declared.group.Group.{Group}
use Rattle.tex_files.specs.declared.group.Group.TheVariants.{Patterns, Exceptions}

-- A digit other than 0, at its place. 0 is no value.
abbrev pub value_of_digit : ℕ → ℕ → List (ℕ × ℕ)
value_of_digit at digit = if digit == digit_zero then [] else (at, digit - digit_zero) ∷ []

-- The digits of a pattern other than 0, each with the number of letters before it plus `at`, counted in bytes.
abbrev pub digit_values : ℕ → List ℕ → List (ℕ × ℕ)
digit_values at [] = []
digit_values at (b ∷ bs) = if is_digit b then value_of_digit at b ++ digit_values at bs else digit_values (at + 1) bs

-- The letters of a word: all but its hyphens.
abbrev pub unhyphenated : List ℕ → List ℕ
unhyphenated [] = []
unhyphenated (b ∷ bs) = if b == hyphen then unhyphenated bs else b ∷ unhyphenated bs

-- The hyphens of a word, each by the number of letters before it plus `at`, counted in bytes.
abbrev pub hyphens_from : ℕ → List ℕ → List ℕ
hyphens_from at [] = []
hyphens_from at (b ∷ bs) = if b == hyphen then at ∷ hyphens_from at bs else hyphens_from (at + 1) bs

-- An entry without a change. The kind of dictionary holds a change or none by payload_of.
abbrev pub entry_without_change : {C : Type 0} → (Option Change → C) → ℕ × ℕ → Entry C
entry_without_change payload_of v = record { place = v.0; value = v.1; change = payload_of None }

-- The entries of a pattern.
abbrev pub entries_of_digits : {C : Type 0} → (Option Change → C) → List ℕ → List (Entry C)
entries_of_digits payload_of text = map (entry_without_change payload_of) (digit_values 0 text)

-- The breaks of a word with hyphens. The kind of dictionary lists a break by listing_of.
abbrev pub breaks_of_hyphens : {B : Type 0} → (Break → B) → List ℕ → List B
breaks_of_hyphens listing_of text = map (λ place. listing_of (plain_break place)) (hyphens_from 0 text)

-- A word with its capitals made small, as TeX makes them, and as `hyphenate` does with a word that it looks up. Bytes
-- that are not UTF-8 have no capitals.
abbrev pub folded_text : List ℕ → List ℕ
folded_text text = if is_utf8 text then fold_case text else text

-- The key and the entries of a word of a group of patterns, in small letters.
abbrev pub pattern_in : {C : Type 0} → (Option Change → C) → Group → List ℕ → Option (List ℕ × List (Entry C))
pattern_in payload_of Patterns text = Some (letters (folded_text text), entries_of_digits payload_of (folded_text text))
pattern_in payload_of Exceptions text = None

-- The word and the breaks of a word of a group of exceptions, in small letters.
abbrev pub exception_in : {B : Type 0} → (Break → B) → Group → List ℕ → Option (List ℕ × List B)
exception_in listing_of Patterns text = None
exception_in listing_of Exceptions text =
    Some (unhyphenated (folded_text text), breaks_of_hyphens listing_of (folded_text text))

-- ---- The tests of words.

-- A backslash or a brace.
abbrev pub is_command : ℕ → Bool
is_command b = b == backslash || b == open_brace || b == close_brace

-- A circumflex.
abbrev pub is_caret : ℕ → Bool
is_caret b = b == caret

-- An apostrophe or a hyphen.
abbrev pub is_mark : ℕ → Bool
is_mark b = b == apostrophe || b == hyphen

-- An ASCII symbol that is allowed in no word of the group. Letters, apostrophes and hyphens are allowed, and in
-- patterns dots and digits.
abbrev pub is_bad_symbol : Group → ℕ → Bool
is_bad_symbol Patterns b = is_ascii b && not (is_ascii_alphabetic b || is_mark b || is_digit b || b == dot)
is_bad_symbol Exceptions b = is_ascii b && not (is_ascii_alphabetic b || is_mark b)

-- A digit in a pattern, and a hyphen in an exception: it says the place of a value, or of a break.
abbrev pub says_place : Group → ℕ → Bool
says_place Patterns b = is_digit b
says_place Exceptions b = b == hyphen

-- Two of them are in succession; `after` says whether one is directly before the text.
abbrev pub two_in_one_place : Group → Bool → List ℕ → Bool
two_in_one_place group after [] = false
two_in_one_place group after (b ∷ bs) =
    (after && says_place group b) || two_in_one_place group (says_place group b) bs

-- A pattern has a character other than dots and digits.
abbrev pub spells_letters : Group → List ℕ → Bool
spells_letters Patterns text = has_letter (letters text)
spells_letters Exceptions text = true

-- A kind of dictionary that carries no change.
abbrev pub carries_nothing : Option Change → Option Change
carries_nothing change = None

-- The letters are UTF-8, and no digit and no hyphen splits a character.
abbrev pub keeps_characters : Group → List ℕ → Bool
keeps_characters Patterns text =
    is_utf8 (letters text) && are_entries (λ change. change) (letters text) (entries_of_digits carries_nothing text)
keeps_characters Exceptions text =
    is_utf8 (unhyphenated text) && are_listed plain_break (unhyphenated text) (hyphens_from 0 text)

-- The first test of its symbols that a word fails.
abbrev pub symbol_cause : Group → List ℕ → Option FileCause
symbol_cause group text =
    if list_any is_command text then Some Command
    else (if list_any is_caret text then Some Caret
    else (if list_any (is_bad_symbol group) text then Some Symbol
    else (if two_in_one_place group false text then Some TwoInOnePlace else None)))

-- The first test of its letters that a word fails.
abbrev pub letter_cause : Group → List ℕ → Option FileCause
letter_cause group text =
    if not (spells_letters group text) then Some NoLetters
    else (if not (keeps_characters group text) then Some NotUtf8 else None)

-- The first of all tests that a word fails. The tests of its letters are made in small letters.
abbrev pub word_cause : Group → List ℕ → Option FileCause
word_cause group text = option_or (symbol_cause group text) (letter_cause group (folded_text text))
