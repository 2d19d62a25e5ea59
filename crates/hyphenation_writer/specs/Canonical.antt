-- The canonical text of a dictionary, which `to_writer` writes.
use Rattle.std.specs.Prelude.{ℕ, ◌+◌, ◌==◌, nat_le, Bool, if◌then◌else◌, List, [], ◌∷◌, ◌++◌, map, codes, Option, Some, None, decimal, flat_map}
use Rattle.std.specs.List.{list_all}
use Rattle.std.specs.FinMap as finite
use Rattle.hyphenation_breaks.specs.Ascii.{backslash, carriage_return, close_brace, comma, digit_zero, line_feed, open_brace, space}
use Rattle.hyphenation_breaks.specs.Break.{Break, Change, break_at, plain_break}
use Rattle.hyphenation_breaks.specs.Dictionary.{Contents}
use Rattle.hyphenation_grammar.specs.Form.{head_line}
use Rattle.hyphenation_grammar.specs.Tokens.{escaped_also, pattern_escapes}
use Rattle.hyphenation_breaks.specs.declared.entry.Entry.{Entry}
use Rattle.hyphenation_grammar.specs.declared.form.Form.{Form}
use Rattle.hyphenation_grammar.specs.declared.form.Kind.{Kind}
use Rattle.hyphenation_grammar.specs.declared.form.Kind.TheVariants.{Standard, Extended}
use Rattle.hyphenation_grammar.specs.declared.form.Version.{Version}
use Rattle.hyphenation_grammar.specs.declared.form.Version.TheVariants.{First, Second}
use Rattle.hyphenation_grammar.specs.declared.tokens.Escapes.{Escapes}
use Rattle.hyphenation_grammar.specs.declared.tokens.Escapes.TheVariants.{Plain}
use Rattle.hyphenation_grammar.specs.declared.tokens.PatternElement.{PatternElement}
use Rattle.hyphenation_grammar.specs.declared.tokens.PatternElement.TheVariants.{Letter, Value}

-- A byte as it is spelt: escaped only if it must be.
abbrev pub byte_spelling : Escapes → ℕ → List ℕ
byte_spelling escapes b =
    if b == backslash then codes "\\\\"
    else (if b == space then codes "\\s"
    else (if b == line_feed then codes "\\n"
    else (if b == carriage_return then codes "\\r"
    else (if escaped_also escapes b then backslash ∷ b ∷ [] else b ∷ []))))

-- A word or a substitution: the empty text is `\e`.
abbrev pub text_token : List ℕ → List ℕ
text_token [] = codes "\\e"
text_token (b ∷ text) = flat_map (byte_spelling Plain) (b ∷ text)

-- A key from a place on, with the values of its entries at their places. Entries ascend by place, from there to the
-- key's end.
abbrev pub elements_for : ℕ → List ℕ → List (Entry (Option Change)) → List PatternElement
elements_for at [] [] = []
elements_for at [] (e ∷ es) = Value e.value ∷ []
elements_for at (b ∷ key) [] = Letter b ∷ elements_for (at + 1) key []
elements_for at (b ∷ key) (e ∷ es) =
    if e.place == at then Value e.value ∷ Letter b ∷ elements_for (at + 1) key es
    else Letter b ∷ elements_for (at + 1) key (e ∷ es)

-- A value up to 9 is a digit; a greater one is in braces.
abbrev pub element_spelling : Version → PatternElement → List ℕ
element_spelling version (Letter b) = byte_spelling (pattern_escapes version) b
element_spelling version (Value v) = if nat_le v 9 then (digit_zero + v) ∷ [] else open_brace ∷ (decimal v ++ close_brace ∷ [])

-- The token of a key with its values.
abbrev pub pattern_token : Version → List ℕ → List (Entry (Option Change)) → List ℕ
pattern_token version key entries = flat_map (element_spelling version) (elements_for 0 key entries)

-- A number and a comma before the rest of a token.
abbrev pub before_comma : ℕ → List ℕ → List ℕ
before_comma n rest = decimal n ++ comma ∷ rest

-- A later token: a place, or a change at a place.
abbrev pub break_token : ℕ → Option Change → List ℕ
break_token place None = decimal place
break_token place (Some c) =
    before_comma place (before_comma c.left
    (before_comma c.right (before_comma c.breakpoint (text_token c.substitution))))

-- Later tokens, each after a space.
abbrev pub later_tokens : List Break → List ℕ
later_tokens breaks = flat_map (λ b. space ∷ break_token b.place b.change) breaks

-- A break with a change in front of others. A place without a change adds nothing.
abbrev pub onto_changes : ℕ → Option Change → List Break → List Break
onto_changes place None breaks = breaks
onto_changes place (Some c) breaks = break_at place (Some c) ∷ breaks

-- The changes of entries, at their places.
abbrev pub changes_of : List (Entry (Option Change)) → List Break
changes_of [] = []
changes_of (e ∷ es) = onto_changes e.place e.change (changes_of es)

-- The line of a key with its entries.
abbrev pub pattern_line : Version → List ℕ → List (Entry (Option Change)) → List ℕ
pattern_line version key entries =
    codes "p " ++ (pattern_token version key entries ++ later_tokens (changes_of entries))

-- The line of a word with its listed breaks.
abbrev pub exception_line : List ℕ → List Break → List ℕ
exception_line word breaks = codes "e " ++ (text_token word ++ later_tokens breaks)

-- Line 2.
abbrev pub language_line : List ℕ → List ℕ
language_line language = codes "language " ++ language

-- Line 3.
abbrev pub minima_line : ℕ → ℕ → List ℕ
minima_line left right = codes "minima " ++ (decimal left ++ space ∷ decimal right)

-- An entry that a dictionary holds, as a text spells it.
abbrev pub entry_as_spelt : {C : Type 0} → (C → Option Change) → Entry C → Entry (Option Change)
entry_as_spelt change_of entry = record { place = entry.place; value = entry.value; change = change_of entry.change }

-- The lines of all keys, ascending by their bytes, as the map holds them.
abbrev pub pattern_lines : {C B : Type 0} → Version → (C → Option Change) → Contents C B → List (List ℕ)
pattern_lines version change_of contents =
    map (λ x. pattern_line version x.0 (map (entry_as_spelt change_of) x.1)) (finite.entries contents.patterns)

-- The lines of all words, ascending by their bytes.
abbrev pub exception_lines : {C B : Type 0} → (B → Break) → Contents C B → List (List ℕ)
exception_lines break_of contents =
    map (λ x. exception_line x.0 (map break_of x.1)) (finite.entries contents.exceptions)

-- All lines: the head, then the keys, then the words.
abbrev pub canonical_lines : {C B : Type 0} → Form → (C → Option Change) → (B → Break) → Contents C B → List (List ℕ)
canonical_lines form change_of break_of contents =
    head_line form ∷ language_line contents.language ∷ minima_line contents.left contents.right
    ∷ (pattern_lines form.version change_of contents ++ exception_lines break_of contents)

-- Each value is at most 9.
abbrev pub are_digits : {C : Type 0} → List (Entry C) → Bool
are_digits entries = list_all (λ e. nat_le e.value 9) entries

-- The first version if it can write each value, else the second.
abbrev pub version_for : {C B : Type 0} → Contents C B → Version
version_for contents = if list_all (λ x. are_digits x.1) (finite.entries contents.patterns) then First else Second

-- Lines as a text, each with a line feed after it.
abbrev pub with_line_feeds : List (List ℕ) → List ℕ
with_line_feeds lines = flat_map (λ line. line ++ line_feed ∷ []) lines

-- The canonical text of a dictionary of that kind. change_of and break_of say which changes and breaks it holds.
abbrev pub canonical_text_of : {C B : Type 0} → Kind → (C → Option Change) → (B → Break) → Contents C B → List ℕ
canonical_text_of kind change_of break_of contents =
    with_line_feeds
    (canonical_lines (record { kind = kind; version = version_for contents }) change_of break_of contents)

-- The canonical text of a standard dictionary, which holds no change.
abbrev pub standard_text : Contents (Unit {0}) ℕ → List ℕ
standard_text contents = canonical_text_of Standard (λ _. None) plain_break contents

-- The canonical text of an extended dictionary, which holds a change or none as it is.
abbrev pub extended_text : Contents (Option Change) (ℕ × Option Change) → List ℕ
extended_text contents = canonical_text_of Extended (λ change. change) (λ b. break_at b.0 b.1) contents
