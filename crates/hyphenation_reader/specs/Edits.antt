-- Edits of exceptions: which are good, and how they change a dictionary.
use Rattle.std.specs.Prelude.{ℕ, ◌+◌, ◌==◌, ◌&&◌, ◌||◌, Bool, false, not, if◌then◌else◌, List, [], ◌∷◌, ◌++◌, length, map, drop, fold, codes, Option, Some, None, is_none}
use Rattle.std.specs.List.{list_any}
use Rattle.std.specs.FinMap as finite
use Rattle.hyphenation_breaks.specs.Ascii.{hyphen, line_feed, plus}
use Rattle.hyphenation_breaks.specs.Break.{Break}
use Rattle.hyphenation_breaks.specs.Dictionary.{Contents}
use Rattle.hyphenation_grammar.specs.Items.{word_of_line, breaks_of_line, later_tokens_of}
use Rattle.hyphenation_grammar.specs.Judging.{own_cause}
use Rattle.hyphenation_grammar.specs.declared.form.Form.{Form}
use Rattle.hyphenation_grammar.specs.declared.form.Kind.{Kind}
use Rattle.hyphenation_grammar.specs.declared.form.Version.{Version}
use Rattle.hyphenation_grammar.specs.declared.form.Version.TheVariants.{First}
use Rattle.hyphenation_grammar.specs.declared.Cause.{Cause}

-- ---- an edit, and the line of a dictionary text with its exception

-- A text begins with this byte.
abbrev pub first_byte_is : ℕ → List ℕ → Bool
first_byte_is sign [] = false
first_byte_is sign (b ∷ bs) = b == sign

-- An edit with `+` lists breaks for a word.
abbrev pub is_addition : List ℕ → Bool
is_addition edit = first_byte_is plus edit

-- An edit with `-` removes a word from the exceptions.
abbrev pub is_removal : List ℕ → Bool
is_removal edit = first_byte_is hyphen edit

-- An exception as a line of a dictionary text.
abbrev pub as_line : List ℕ → List ℕ
as_line exception = codes "e " ++ exception

-- The line of the exception that an edit has after its `+` or `-`.
abbrev pub edit_line : List ℕ → List ℕ
edit_line edit = as_line (drop 1 edit)

-- ---- which edits are good

-- An edit has a line feed.
abbrev pub has_line_feed : List ℕ → Bool
has_line_feed edit = list_any (λ b. b == line_feed) edit

-- The form of a kind and a version.
abbrev pub form_in : Kind → Version → Form
form_in kind version = record { kind = kind; version = version }

-- The first test that a line after the third fails by itself, in a text of that kind and version.
abbrev pub cause_in : Kind → Version → List ℕ → Option Cause
cause_in kind version line = own_cause (form_in kind version) 4 line

-- The line of an exception fails no test by itself. Both versions write it alike.
abbrev pub is_sound_line : Kind → List ℕ → Bool
is_sound_line kind line = is_none (cause_in kind First line)

-- The line of an exception is sound, and lists no break for its word.
abbrev pub is_word_alone : Kind → List ℕ → Bool
is_word_alone kind line = is_sound_line kind line && length (later_tokens_of line) == 0

-- An edit is `+` and a sound exception.
abbrev pub is_good_addition : Kind → List ℕ → Bool
is_good_addition kind edit = is_addition edit && is_sound_line kind (edit_line edit)

-- An edit is `-` and only a word.
abbrev pub is_good_removal : Kind → List ℕ → Bool
is_good_removal kind edit = is_removal edit && is_word_alone kind (edit_line edit)

-- An edit is good: one of the two, without a line feed.
abbrev pub is_good_edit : Kind → List ℕ → Bool
is_good_edit kind edit = not (has_line_feed edit) && (is_good_addition kind edit || is_good_removal kind edit)

-- The number of the first edit that is not good, counted from `number` on.
abbrev pub first_refused_from : Kind → ℕ → List (List ℕ) → Option ℕ
first_refused_from kind number [] = None
first_refused_from kind number (edit ∷ edits) =
    if is_good_edit kind edit then first_refused_from kind (number + 1) edits else Some number

-- The number, from 1, of the first edit that is not good.
abbrev pub first_refused : Kind → List (List ℕ) → Option ℕ
first_refused kind edits = first_refused_from kind 1 edits

-- ---- the dictionary after edits; listing_of says how it lists a break

-- The dictionary with the breaks of a line listed for its word.
abbrev pub after_addition : {C B : Type 0} → (Break → B) → Contents C B → List ℕ → Contents C B
after_addition listing_of contents line =
    record contents {
      exceptions = finite.insert contents.exceptions (word_of_line line)
          (map listing_of (breaks_of_line line));
    }

-- The dictionary without the word of a line among its exceptions.
abbrev pub after_removal : {C B : Type 0} → Contents C B → List ℕ → Contents C B
after_removal contents line = record contents { exceptions = finite.remove contents.exceptions (word_of_line line) }

-- The dictionary after an edit: an addition lists its word; any other edit removes it (only good edits are applied).
abbrev pub after_edit : {C B : Type 0} → (Break → B) → Contents C B → List ℕ → Contents C B
after_edit listing_of contents edit =
    if is_addition edit then after_addition listing_of contents (edit_line edit)
    else after_removal contents (edit_line edit)

-- The dictionary after edits, from first to last.
abbrev pub after_edits : {C B : Type 0} → (Break → B) → Contents C B → List (List ℕ) → Contents C B
after_edits listing_of contents edits = fold (after_edit listing_of) contents edits
