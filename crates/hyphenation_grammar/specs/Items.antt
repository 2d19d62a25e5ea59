-- The patterns and exceptions that `p` and `e` lines spell.
use Rattle.std.specs.Prelude.{ℕ, ◌==◌, Bool, if◌then◌else◌, List, [], ◌∷◌, map, drop, codes, Option, Some, None, unwrap_or, slice_index_or}
use Rattle.hyphenation_breaks.specs.Break.{Break, Change}
use Rattle.hyphenation_grammar.specs.Lines.{between_spaces, starts_with}
use Rattle.hyphenation_grammar.specs.Tokens.{elements_of, text_spelt, key_of, values_from, has_comma, place_of_token, change_of_token}
use Rattle.hyphenation_grammar.specs.declared.form.Version.{Version}
use Rattle.hyphenation_grammar.specs.declared.tokens.PatternElement.{PatternElement}
use Rattle.hyphenation_breaks.specs.declared.entry.Entry.{Entry}

-- A line is a `p` line.
abbrev pub is_pattern_line : List ℕ → Bool
is_pattern_line line = starts_with (codes "p ") line

-- A line is an `e` line.
abbrev pub is_exception_line : List ℕ → Bool
is_exception_line line = starts_with (codes "e ") line

-- The tokens of a line with an item: the pieces between single spaces after its first two bytes.
abbrev pub tokens_of : List ℕ → List (List ℕ)
tokens_of line = between_spaces (drop 2 line)

-- Its first token.
abbrev pub first_token_of : List ℕ → List ℕ
first_token_of line = slice_index_or (tokens_of line) 0 []

-- Its later tokens.
abbrev pub later_tokens_of : List ℕ → List (List ℕ)
later_tokens_of line = drop 1 (tokens_of line)

-- The elements of a pattern; none if they can't be read.
abbrev pub pattern_elements : Version → List ℕ → List PatternElement
pattern_elements version line = unwrap_or (elements_of version (first_token_of line)) []

-- The key of a pattern.
abbrev pub key_of_line : Version → List ℕ → List ℕ
key_of_line version line = key_of (pattern_elements version line)

-- The word of an exception; empty if it can't be read.
abbrev pub word_of_line : List ℕ → List ℕ
word_of_line line = unwrap_or (text_spelt (first_token_of line)) []

-- The text in which the places of a line count: the key or the word.
abbrev pub counted_text : Version → List ℕ → List ℕ
counted_text version line = if is_pattern_line line then key_of_line version line else word_of_line line

-- The key of a `p` line; none of any other line.
abbrev pub key_spelt : Version → List ℕ → Option (List ℕ)
key_spelt version line = if is_pattern_line line then Some (key_of_line version line) else None

-- The word of an `e` line; none of any other line.
abbrev pub word_spelt : List ℕ → Option (List ℕ)
word_spelt line = if is_exception_line line then Some (word_of_line line) else None

-- The break that a later token lists: a place, with a change if the token has commas.
abbrev pub break_of_token : List ℕ → Break
break_of_token token = record {
  place = place_of_token token;
  change = if has_comma token then Some (change_of_token token)
      else None;
}

-- The breaks that the later tokens of a line list.
abbrev pub breaks_of_line : List ℕ → List Break
breaks_of_line line = map break_of_token (later_tokens_of line)

-- The change of the first break that is listed at the place; none if that has none, or no break is listed there.
abbrev pub change_at : ℕ → List Break → Option Change
change_at place [] = None
change_at place (b ∷ rest) = if b.place == place then b.change else change_at place rest

-- The entries of a key: its values, each with the change at its place.
abbrev pub entries_of_line : Version → List ℕ → List (Entry (Option Change))
entries_of_line version line =
    map (λ v. record { place = v.0; value = v.1; change = change_at v.0 (breaks_of_line line) })
    (values_from 0 (pattern_elements version line))

-- The pattern that a `p` line spells: its key with its entries.
abbrev pub pattern_of_line : Version → List ℕ → Option (List ℕ × List (Entry (Option Change)))
pattern_of_line version line =
    if is_pattern_line line then Some (key_of_line version line, entries_of_line version line) else None

-- The exception that an `e` line spells: its word with its listed breaks.
abbrev pub exception_of_line : List ℕ → Option (List ℕ × List Break)
exception_of_line line = if is_exception_line line then Some (word_of_line line, breaks_of_line line) else None
