-- The tests of a line, and the refusal of a text.
use Rattle.std.specs.Prelude.{ℕ, ◌+◌, ◌==◌, ◌&&◌, ◌||◌, nat_lt, Bool, true, false, not, if◌then◌else◌, List, [], ◌∷◌, ◌++◌, length, map, codes, Option, Some, None, is_some, is_none, option_map, find}
use Rattle.std.specs.List.{list_all, list_any}
use Rattle.std.specs.Option.{option_or, option_map_or}
use Rattle.std.specs.Str.{is_utf8}
use Rattle.hyphenation_breaks.specs.Break.{ascend_on, keeps_within}
use Rattle.hyphenation_breaks.specs.Invariant.{has_letter}
use Rattle.hyphenation_grammar.specs.Form.{head_line, form_of}
use Rattle.hyphenation_grammar.specs.Lines.{is_same, starts_with, language_of, minima_of, is_number, lines_of}
use Rattle.hyphenation_grammar.specs.Tokens.{elements_of, pattern_bytes, text_spelt, two_values, has_comma, numerals_of, is_readable, place_of_token, has_five_parts, change_of_token, values_from}
use Rattle.hyphenation_grammar.specs.Items.{is_pattern_line, is_exception_line, first_token_of, later_tokens_of, pattern_elements, key_of_line, word_of_line, counted_text, key_spelt, word_spelt}
use Rattle.hyphenation_grammar.specs.declared.tokens.PatternElement.{PatternElement}
use Rattle.hyphenation_grammar.specs.declared.form.Form.{Form}
use Rattle.hyphenation_grammar.specs.declared.form.Kind.{Kind}
use Rattle.hyphenation_grammar.specs.declared.form.Kind.TheVariants.{Standard, Extended}
use Rattle.hyphenation_grammar.specs.declared.form.Version.{Version}
use Rattle.hyphenation_grammar.specs.declared.Cause.{Cause}
use Rattle.hyphenation_grammar.specs.declared.Cause.TheVariants.{NotUtf8, Header, Language, Minima, UnknownLine, Token, Value, Pattern, NoLetters, Number, Place, Change, RepeatedPattern, RepeatedException}

-- A line is a `p` or an `e` line.
abbrev pub is_item_line : List ℕ → Bool
is_item_line line = is_pattern_line line || is_exception_line line

-- The four sorts of later lines: empty ones, comments, `p` lines and `e` lines.
abbrev pub is_known : List ℕ → Bool
is_known line = length line == 0 || starts_with (codes "#") line || is_item_line line

-- The first token of a line is not empty, and can be read.
abbrev pub is_readable_first : Version → List ℕ → Bool
is_readable_first version line =
    nat_lt 0 (length (first_token_of line))
    && (if is_pattern_line line then is_some (pattern_bytes version (first_token_of line))
    else is_some (text_spelt (first_token_of line)))

-- A kind allows changes.
abbrev pub is_extended : Kind → Bool
is_extended Standard = false
is_extended Extended = true

-- A value other than 0 is at the place.
abbrev pub has_value_at : List PatternElement → ℕ → Bool
has_value_at elements place = list_any (λ v. v.0 == place) (values_from 0 elements)

-- A later token without a comma belongs in an `e` line. One with a comma must be a change with all parts, in an extended
-- text, and keep within the key or word. In a `p` line a value other than 0 must be at its place.
abbrev pub is_good_later_token : Form → Bool → List PatternElement → List ℕ → List ℕ → Bool
is_good_later_token form in_pattern elements text token =
    if has_comma token then is_extended form.kind && has_five_parts token
    && keeps_within text (place_of_token token) (change_of_token token)
    && (not in_pattern || has_value_at elements (place_of_token token))
    else not in_pattern

-- A part of a later token that must be a number is none.
abbrev pub has_bad_number : List (List ℕ) → Bool
has_bad_number later = not (list_all (λ token. list_all is_number (numerals_of token)) later)

-- The places do not ascend on the character boundaries of the text that they count in.
abbrev pub has_bad_place : List ℕ → List (List ℕ) → Bool
has_bad_place text later = not (ascend_on text 0 (map place_of_token later))

-- A later token does not belong in this line.
abbrev pub has_bad_change : Form → Bool → List PatternElement → List ℕ → List (List ℕ) → Bool
has_bad_change form in_pattern elements text later =
    not (list_all (is_good_later_token form in_pattern elements text) later)

-- The line of that number fails the test of that cause, whatever lines come before it.
abbrev pub fails : Form → ℕ → List ℕ → Cause → Bool
fails form number line NotUtf8 = not (is_utf8 line)
fails form number line Header = number == 1 && not (is_same line (head_line form))
fails form number line Language = number == 2 && is_none (language_of line)
fails form number line Minima = number == 3 && is_none (minima_of line)
fails form number line UnknownLine = nat_lt 3 number && not (is_known line)
fails form number line Token =
    is_item_line line && not (is_readable_first form.version line && list_all is_readable (later_tokens_of line))
fails form number line Value = is_pattern_line line && is_none (elements_of form.version (first_token_of line))
fails form number line Pattern = is_pattern_line line && two_values false (pattern_elements form.version line)
fails form number line NoLetters = is_pattern_line line && not (has_letter (key_of_line form.version line))
fails form number line Number = is_item_line line && has_bad_number (later_tokens_of line)
fails form number line Place =
    is_item_line line && has_bad_place (counted_text form.version line) (later_tokens_of line)
fails form number line Change =
    is_item_line line
    && has_bad_change form (is_pattern_line line) (pattern_elements form.version line) (counted_text form.version line)
    (later_tokens_of line)
fails form number line RepeatedPattern = false
fails form number line RepeatedException = false

-- The first test that the line of that number fails by itself.
abbrev pub own_cause : Form → ℕ → List ℕ → Option Cause
own_cause form number line =
    find (fails form number line)
    (NotUtf8 ∷ Header ∷ Language ∷ Minima ∷ UnknownLine ∷ Token ∷ Value ∷ Pattern ∷ NoLetters ∷ Number ∷ Place
    ∷ Change ∷ [])

-- An earlier line spells this key or word.
abbrev pub is_repeated : (List ℕ → Option (List ℕ)) → List (List ℕ) → List ℕ → Bool
is_repeated spells earlier text =
    list_any (λ line. option_map_or (λ other. is_same other text) (spells line) false) earlier

-- The last two tests: an earlier line has the key or the word.
abbrev pub repetition : Version → List (List ℕ) → List ℕ → Option Cause
repetition version earlier line =
    if is_pattern_line line && is_repeated (key_spelt version) earlier (key_of_line version line)
    then Some RepeatedPattern
    else (if is_exception_line line && is_repeated word_spelt earlier (word_of_line line)
    then Some RepeatedException
    else None)

-- The first of all tests that a line after those earlier ones fails.
abbrev pub cause_of : Form → List (List ℕ) → List ℕ → Option Cause
cause_of form earlier line = option_or (own_cause form (length earlier + 1) line) (repetition form.version earlier line)

-- The head line that is missing after this number of lines.
abbrev pub missing_head : ℕ → Option Cause
missing_head n =
    if n == 0 then Some Header else (if n == 1 then Some Language else (if n == 2 then Some Minima else None))

-- The first fault among the lines after earlier ones: the number of its line and its cause.
abbrev pub fault_after : Form → List (List ℕ) → List (List ℕ) → Option (ℕ × Cause)
fault_after form earlier [] = option_map (λ cause. (length earlier + 1, cause)) (missing_head (length earlier))
fault_after form earlier (line ∷ lines) =
    option_or (option_map (λ cause. (length earlier + 1, cause)) (cause_of form earlier line))
    (fault_after form (earlier ++ line ∷ []) lines)

-- The first fault of the lines of a text of that kind. The first line names the version.
abbrev pub fault_of : Kind → List (List ℕ) → Option (ℕ × Cause)
fault_of kind lines = fault_after (form_of kind lines) [] lines

-- The refusal of a text of that kind; none if it is accepted.
abbrev pub refusal_of : Kind → List ℕ → Option (ℕ × Cause)
refusal_of kind bytes = fault_of kind (lines_of bytes)
