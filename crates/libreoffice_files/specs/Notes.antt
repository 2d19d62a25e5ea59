-- The remarks on a `.dic` of LibreOffice, and the notes that they give.
use Rattle.std.specs.Prelude.{ℕ, ◌==◌, ◌&&◌, ◌||◌, nat_eq, not, Bool, false, true, if◌then◌else◌, List, [], ◌∷◌, ◌++◌, fold, length, map}
use Rattle.std.specs.Prelude.{Option, Some, None, option_map, is_some, Result, Ok, Err}
use Rattle.std.specs.Cmp.Lexicographic.{pointwise}
use Rattle.std.specs.List.{filter_map, flat_map, list_any}
use Rattle.std.specs.Option.{option_or}
use Rattle.hyphenation_breaks.specs.Break.{Change}
use Rattle.hyphenation_breaks.specs.Dictionary.{Patterns}
use Rattle.hyphenation_breaks.specs.Invariant.{has_letter}
use Rattle.hyphenation_breaks.specs.declared.entry.Entry.{Entry}
use Rattle.hyphenation_grammar.specs.Lines.{is_digit}
use Rattle.libreoffice_files.specs.LibreOffice.{Encoded, encoded_in, encoded_lines, is_pattern}
use Rattle.libreoffice_files.specs.LibreOfficeLines.{DicLine, FileSettings, minimum_set, settings_of}
use Rattle.libreoffice_files.specs.LibreOfficePatterns.{Spelt, begins_with_digit, change_of, last_values, pattern_of_line, split_at_slash}
use Rattle.libreoffice_files.specs.Longest.{hides_value}
use Rattle.libreoffice_files.specs.declared.change.PlacedChange.{PlacedChange}
use Rattle.libreoffice_files.specs.declared.lines.LineKind.{LineKind}
use Rattle.libreoffice_files.specs.declared.lines.LineKind.TheVariants as kinds
use Rattle.libreoffice_files.specs.declared.value.Value.{Value}
use Rattle.pattern_results.specs.Notes.{Remark, notes_of}
use Rattle.pattern_results.specs.Texts.{letters}
use Rattle.pattern_results.specs.declared.notes.Note.{Note}
use Rattle.pattern_results.specs.declared.notes.NoteKind.{NoteKind}
use Rattle.pattern_results.specs.declared.notes.NoteKind.TheVariants as note

-- A remark on a line.
abbrev pub remark_on : NoteKind → ℕ → Remark
remark_on kind line = record { kind = kind; at = record { file = 0; line = line } }

-- A remark on a line, if there is cause for it.
abbrev pub remark_if : Bool → NoteKind → ℕ → List Remark
remark_if is_made kind line = if is_made then remark_on kind line ∷ [] else []

-- ---- Lines, each by itself.

-- A text has two digits in succession.
abbrev pub has_two_values : List ℕ → Bool
has_two_values [] = false
has_two_values (b ∷ bs) = (is_digit b && begins_with_digit bs) || has_two_values bs

-- The remark on a change: it can't be read, or several values could take it.
abbrev pub change_remarks : ℕ → Result (PlacedChange × Bool) NoteKind → List Remark
change_remarks line (Ok found) = remark_if found.1 note.ChangeOfSeveral line
change_remarks line (Err kind) = remark_on kind line ∷ []

abbrev pub change_remarks_if : ℕ → Option (Result (PlacedChange × Bool) NoteKind) → List Remark
change_remarks_if line None = []
change_remarks_if line (Some change) = change_remarks line change

abbrev pub change_remarks_of : ℕ → List ℕ → List Value → Option (List ℕ) → List Remark
change_remarks_of line key values change = change_remarks_if line (option_map (change_of key values) change)

-- The remark on the letters of a pattern and on its change.
abbrev pub letter_remarks : ℕ → List ℕ → List Value → Option (List ℕ) → List Remark
letter_remarks line key values change =
    if has_letter key then change_remarks_of line key values change else remark_on note.NoLetters line ∷ []

-- The remarks on a pattern by itself: of two values in one place, and those on its letters and its change.
abbrev pub pattern_remarks : ℕ → List ℕ × Option (List ℕ) → List Remark
pattern_remarks line parts =
    remark_if (has_two_values parts.0) note.TwoValues line
    ++ letter_remarks line (letters parts.0) (last_values 0 parts.0) parts.1

-- The remarks on a line by itself.
abbrev pub remarks_by : LineKind → ℕ → List ℕ → List Remark
remarks_by kinds.Pattern line text = pattern_remarks line (split_at_slash text)
remarks_by kinds.NoHyphen line text = remark_on note.NoHyphen line ∷ []
remarks_by kinds.Other line text = remark_on note.Setting line ∷ []
remarks_by kind line text = []

abbrev pub line_remarks : DicLine → List Remark
line_remarks line = remarks_by line.kind line.number line.text

-- ---- Patterns beside others.

-- A pattern that is kept, and the number of its line.
pub record LinePattern : Type 0 where
  pub key : List ℕ
  pub spelt : Spelt
  pub line : ℕ

-- The pattern of a line, if it is kept.
abbrev pub pattern_on : DicLine → Option LinePattern
pattern_on line = option_map (λ p. record { key = p.0; spelt = p.1; line = line.number }) (pattern_of_line line)

-- The patterns of lines that are kept, in their order.
abbrev pub patterns_on : List DicLine → List LinePattern
patterns_on lines = filter_map pattern_on lines

-- Values as entries of a key without changes.
abbrev pub plain_entries : List Value → List (Entry (Unit {0}))
plain_entries values = map (λ v. record { place = v.place; value = v.value; change = tt }) values

-- No keys.
abbrev pub no_keys : Patterns (Unit {0})
no_keys text = None

-- Keys with that of one pattern more, which takes the place of an equal one.
abbrev pub with_pattern : Patterns (Unit {0}) → LinePattern → Patterns (Unit {0})
with_pattern keys pattern text =
    if pointwise nat_eq pattern.key text then Some (plain_entries pattern.spelt.values) else keys text

-- The keys of patterns. If a key comes several times, the last one counts.
abbrev pub keys_of : List LinePattern → Patterns (Unit {0})
keys_of patterns = fold with_pattern no_keys patterns

-- The remarks on a pattern that is kept, by the keys of those before: it has no value, or its key came before.
abbrev pub kept_remarks : Patterns (Unit {0}) → LinePattern → List Remark
kept_remarks before pattern =
    remark_if (length pattern.spelt.values == 0) note.NoValue pattern.line
    ++ remark_if (is_some (before pattern.key)) note.Repeated pattern.line

abbrev pub all_kept_remarks : Patterns (Unit {0}) → List LinePattern → List Remark
all_kept_remarks before [] = []
all_kept_remarks before (pattern ∷ patterns) =
    kept_remarks before pattern ++ all_kept_remarks (with_pattern before pattern) patterns

-- The remark on a pattern that hides a value of a shorter one from LibreOffice.
abbrev pub hiding_remarks : Patterns (Unit {0}) → LinePattern → List Remark
hiding_remarks keys pattern = remark_if (hides_value keys pattern.key) note.HidesValue pattern.line

abbrev pub all_hiding_remarks : List LinePattern → List Remark
all_hiding_remarks patterns = flat_map (hiding_remarks (keys_of patterns)) patterns

-- A change is lost in a kind of dictionary that has no room for it.
abbrev pub is_lost : {C : Type 0} → (C → Option Change) → (Option Change → C) → Option PlacedChange → Bool
is_lost change_of payload_of None = false
is_lost change_of payload_of (Some placed) = not (is_some (change_of (payload_of (Some placed.change))))

-- The remark on a pattern whose change is lost.
abbrev pub loss_remarks : {C : Type 0} → (C → Option Change) → (Option Change → C) → LinePattern → List Remark
loss_remarks change_of payload_of pattern =
    remark_if (is_lost change_of payload_of pattern.spelt.change) note.ChangeForbidden pattern.line

-- ---- The file.

-- A line ends a level.
abbrev pub is_level : LineKind → Bool
is_level kinds.Level = true
is_level kind = false

-- The remark on the levels: there is one level only, or there are patterns in the first one and after it. Patterns may have come
-- before these lines.
abbrev pub level_remarks : Bool → List DicLine → List Remark
level_remarks before [] = remark_on note.NoLevels 1 ∷ []
level_remarks before (line ∷ lines) =
    if is_level line.kind
    then remark_if (before && list_any (λ one. is_pattern one.kind) lines) note.TwoLevels line.number
    else level_remarks (before || is_pattern line.kind) lines

-- The remark that a minimum is neither given nor set.
abbrev pub minima_remarks : Option ℕ → Option ℕ → FileSettings → List Remark
minima_remarks left right settings =
    remark_if (not (is_some (option_or left (minimum_set settings.left)) && is_some (option_or right (minimum_set settings.right))))
    note.NoMinima 1

-- The remarks on patterns beside others, and on the lines that have them.
abbrev pub remarks_among : {C : Type 0} → (C → Option Change) → (Option Change → C) → Option ℕ → Option ℕ → List DicLine
    → List LinePattern → List Remark
remarks_among change_of payload_of left right lines patterns =
    all_kept_remarks no_keys patterns ++ all_hiding_remarks patterns ++ level_remarks false lines
    ++ minima_remarks left right (settings_of lines) ++ flat_map (loss_remarks change_of payload_of) patterns

abbrev pub remarks_beside : {C : Type 0} → (C → Option Change) → (Option Change → C) → Option ℕ → Option ℕ → List DicLine
    → List Remark
remarks_beside change_of payload_of left right lines =
    remarks_among change_of payload_of left right lines (patterns_on lines)

-- The remarks on lines, of which the first one has that number in the file.
abbrev pub remarks_on : {C : Type 0} → (C → Option Change) → (Option Change → C) → Option ℕ → Option ℕ → ℕ → List DicLine
    → List Remark
remarks_on change_of payload_of left right first lines =
    remark_if (first == 1) note.NoCharset 1 ++ flat_map line_remarks lines
    ++ remarks_beside change_of payload_of left right lines

-- The notes on lines.
abbrev pub notes_on : {C : Type 0} → (C → Option Change) → (Option Change → C) → Option ℕ → Option ℕ → ℕ → List DicLine
    → List Note
notes_on change_of payload_of left right first lines = notes_of (remarks_on change_of payload_of left right first lines)

abbrev pub notes_on_encoded : {C : Type 0} → (C → Option Change) → (Option Change → C) → Option ℕ → Option ℕ → Encoded
    → List Note
notes_on_encoded change_of payload_of left right coded =
    notes_on change_of payload_of left right coded.first (encoded_lines coded)

-- The notes on a file, for a kind of dictionary and minima that are given.
abbrev pub notes_if_encoded : {C : Type 0} → (C → Option Change) → (Option Change → C) → Option ℕ → Option ℕ → Option Encoded
    → List Note
notes_if_encoded change_of payload_of left right None = []
notes_if_encoded change_of payload_of left right (Some coded) = notes_on_encoded change_of payload_of left right coded

abbrev pub notes_of_dic : {C : Type 0} → (C → Option Change) → (Option Change → C) → Option ℕ → Option ℕ → List ℕ → List Note
notes_of_dic change_of payload_of left right bytes = notes_if_encoded change_of payload_of left right (encoded_in bytes)
