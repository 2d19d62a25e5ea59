-- The pieces that the writer's private functions append: values at one place, lines, and whole texts in a given order.
-- It follows their steps, and no public contract cites it.
use Rattle.std.specs.Prelude.{ℕ, ◌==◌, if◌then◌else◌, List, [], ◌∷◌, ◌++◌, map, Option}
use Rattle.std.specs.List.{list_all}
use Rattle.hyphenation_breaks.specs.Break.{Break, Change}
use Rattle.hyphenation_grammar.specs.Form.{head_line}
use Rattle.hyphenation_writer.specs.Canonical.{are_digits, entry_as_spelt, exception_line, element_spelling, language_line, minima_line, pattern_line, with_line_feeds}
use Rattle.hyphenation_breaks.specs.declared.entry.Entry.{Entry}
use Rattle.hyphenation_grammar.specs.declared.form.Form.{Form}
use Rattle.hyphenation_grammar.specs.declared.form.Version.{Version}
use Rattle.hyphenation_grammar.specs.declared.form.Version.TheVariants.{First, Second}
use Rattle.hyphenation_grammar.specs.declared.tokens.PatternElement.TheVariants.{Value}

-- The value of the first entry, if that is at the place.
abbrev pub first_value_at : {C : Type 0} → Version → ℕ → List (Entry C) → List ℕ
first_value_at version at [] = []
first_value_at version at (e ∷ es) = if e.place == at then element_spelling version (Value e.value) else []

-- The entries without the first one, if that is at the place.
abbrev pub entries_after : {C : Type 0} → ℕ → List (Entry C) → List (Entry C)
entries_after at [] = []
entries_after at (e ∷ es) = if e.place == at then es else e ∷ es

-- The line of a key with its entries.
abbrev pub key_line : {C : Type 0} → Version → (C → Option Change) → List ℕ × List (Entry C) → List ℕ
key_line version change_of x = pattern_line version x.0 (map (entry_as_spelt change_of) x.1)

-- The line of a word with its listed breaks.
abbrev pub word_line : {B : Type 0} → (B → Break) → List ℕ × List B → List ℕ
word_line break_of x = exception_line x.0 (map break_of x.1)

-- The text with the lines of keys and words in the order that they have.
abbrev pub text_in_order : {C B : Type 0} → Form → (C → Option Change) → (B → Break) → List ℕ → ℕ × ℕ
    → List (List ℕ × List (Entry C)) → List (List ℕ × List B) → List ℕ
text_in_order form change_of break_of language minima keys words =
    with_line_feeds
    (head_line form ∷ language_line language ∷ minima_line minima.0 minima.1
    ∷ (map (key_line form.version change_of) keys ++ map (word_line break_of) words))

-- The first version if it can write each value of these keys, else the second.
abbrev pub version_of_keys : {C : Type 0} → List (List ℕ × List (Entry C)) → Version
version_of_keys keys = if list_all (λ x. are_digits x.1) keys then First else Second
