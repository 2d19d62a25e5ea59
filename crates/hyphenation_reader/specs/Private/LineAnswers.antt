-- The results of reading one line, and the tests that it fails.
-- It follows the steps of private functions, which are proved equal to Items and Judging. No public contract cites it.
use Rattle.std.specs.Prelude.{◌≡◌, ℕ, ◌==◌, ◌&&◌, Bool, true, false, not, if◌then◌else◌, List, [], ◌∷◌, map, find, Option, Some, None, Result, MatchResult, codes}
use Rattle.std.specs.Option.{option_or}
use Rattle.std.specs.List.{list_all, list_any}
use Rattle.std.specs.String.{string_bytes}
use Rattle.std.specs.declared.string.String.{String}
use Rattle.std.specs.declared.vec.Vec.{Vec}
use Rattle.hyphenation_breaks.specs.Break.{Break, Change as Changed, break_at, ascend_on, keeps_within}
use Rattle.hyphenation_breaks.specs.Invariant.{has_letter}
use Rattle.hyphenation_grammar.specs.Items.{pattern_of_line, exception_of_line, change_at}
use Rattle.hyphenation_grammar.specs.Judging.{fails, is_extended}
use Rattle.hyphenation_grammar.specs.Lines.{strip_prefix}
use Rattle.hyphenation_grammar.specs.Parsed.{ReadPattern, is_bad}
use Rattle.hyphenation_reader.specs.Private.Parsed.{ReadLater}
use Rattle.hyphenation_grammar.specs.Reading.{spelling_as, entry_as}
use Rattle.hyphenation_breaks.specs.declared.entry.Entry.{Entry}
use Rattle.hyphenation_grammar.specs.declared.Cause.{Cause}
use Rattle.hyphenation_grammar.specs.declared.Cause.TheVariants.{Token, Value as BadValue, Pattern as TwoValues, NoLetters, Number, Place, Change}
use Rattle.hyphenation_grammar.specs.declared.form.Form.{Form}
use Rattle.hyphenation_grammar.specs.declared.form.Version.{Version}
use Rattle.hyphenation_reader.specs.declared.items.Item.{Item}
use Rattle.hyphenation_reader.specs.declared.items.Item.TheVariants.{Nothing, Pattern, Exception}
use Rattle.hyphenation_reader.specs.declared.items.LineBuffers.{LineBuffers}

-- The item, with a pattern's key and entries, is what the line spells, in a dictionary that holds changes and listed breaks
-- by these functions.
abbrev pub IsItemOf : {C B : Type 0} → Version → (Option Changed → C) → (Break → B) → List ℕ → List (Entry C) → Item B
    → List ℕ → Type 0
IsItemOf version payload_of listing_of key entries Nothing line =
    (pattern_of_line version line ≡ None) × (exception_of_line line ≡ None)
IsItemOf version payload_of listing_of key entries Pattern line =
    (spelling_as (entry_as payload_of) (pattern_of_line version) line ≡ Some (key, entries))
    × (exception_of_line line ≡ None)
IsItemOf version payload_of listing_of key entries (Exception word listed) line =
    (pattern_of_line version line ≡ None)
    × (spelling_as listing_of exception_of_line line ≡ Some (string_bytes word, listed.items))

-- The item is what the line spells; the buffers have a pattern's key and entries.
abbrev pub IsItemIn : {C B : Type 0} → LineBuffers C → Version → (Option Changed → C) → (Break → B) → Item B → List ℕ → Type 0
IsItemIn buffers version payload_of listing_of item line =
    IsItemOf version payload_of listing_of buffers.pattern.key.items buffers.entries.items item line

-- The first test from Token on that a `p` or `e` line fails.
abbrev pub item_cause : Form → List ℕ → Option Cause
item_cause form line =
    find (fails form 4 line) (Token ∷ BadValue ∷ TwoValues ∷ NoLetters ∷ Number ∷ Place ∷ Change ∷ [])

-- The result of reading a `p` or `e` line: the item that it spells, with a pattern's key and entries; or the first of these
-- tests that it fails.
abbrev pub ReturnsItem : {C B : Type 0} → Form → (Option Changed → C) → (Break → B) → List ℕ → List (Entry C) → List ℕ
    → Result (Item B) Cause → Type 0
ReturnsItem form payload_of listing_of key entries line found =
    MatchResult found
    (λ item. (item_cause form line ≡ None) × IsItemOf form.version payload_of listing_of key entries item line)
    (λ cause. item_cause form line ≡ Some cause)

-- The result of reading a `p` line, given its text after `p `. The buffers have the key and the entries of the pattern.
abbrev pub ReturnsPattern : {C B : Type 0} → LineBuffers C → Form → (Option Changed → C) → (Break → B) → List ℕ
    → Result (Item B) Cause → Type 0
ReturnsPattern buffers form payload_of listing_of text found =
    (line : List ℕ) → Some text ≡ strip_prefix (codes "p ") line
    → ReturnsItem form payload_of listing_of buffers.pattern.key.items buffers.entries.items line found

-- The result of reading an `e` line, given its text after `e `, whatever key and entries the buffers have.
abbrev pub ReturnsListed : (C : Type 0) {B : Type 0} → Form → (Option Changed → C) → (Break → B) → List ℕ
    → Result (Item B) Cause → Type 0
ReturnsListed C form payload_of listing_of text found =
    (line : List ℕ) → Some text ≡ strip_prefix (codes "e ") line
    → (key : List ℕ) → (entries : List (Entry C)) → ReturnsItem form payload_of listing_of key entries line found

-- The result of reading an `e` line: its word and its listed breaks, or the first of these tests that it fails.
abbrev pub ReturnsException : {B Y Z : Type 0} → Form → (Break → B) → List ℕ → Result (String Y × Vec B Z) Cause
    → Type 0
ReturnsException form listing_of line found =
    MatchResult found (λ x. (item_cause form line ≡ None) ×
    ((pattern_of_line form.version line ≡ None)
    × (spelling_as listing_of exception_of_line line ≡ Some (string_bytes x.0, x.1.items))))
    (λ cause. item_cause form line ≡ Some cause)

-- The first of the tests Number and Place that later tokens fail. Their places are bytes of the text.
abbrev pub places_cause : List ℕ → ReadLater → Option Cause
places_cause text later =
    if not later.are_numbers then Some Number
    else (if not (ascend_on text 0 (map (λ b. b.0) later.listed)) then Some Place else None)

-- A change belongs to an extended text, and keeps within the key or the word.
abbrev pub suits_form : Form → List ℕ → ℕ → Changed → Bool
suits_form form text place change = is_extended form.kind && keeps_within text place change

-- A `p` line lists only changes, each at the place of a value.
abbrev pub suits_key : Form → List ℕ → List (ℕ × ℕ) → ℕ × Option Changed → Bool
suits_key form key values (place, None) = false
suits_key form key values (place, Some change) = suits_form form key place change && list_any (λ v. v.0 == place) values

-- An `e` line lists places, with a change or none.
abbrev pub suits_word : Form → List ℕ → ℕ × Option Changed → Bool
suits_word form word (place, None) = true
suits_word form word (place, Some change) = suits_form form word place change

-- The first test after Token that a `p` line fails, if its listed changes are tested by `fits`.
abbrev pub cause_by : (ℕ × Option Changed → Bool) → ReadPattern → ReadLater → Option Cause
cause_by fits pattern later =
    if is_bad pattern then Some BadValue
    else (if pattern.has_two_values then Some TwoValues
    else (if not (has_letter pattern.key) then Some NoLetters
    else option_or (places_cause pattern.key later)
    (if not (later.are_sound && list_all fits later.listed) then Some Change else None)))

-- The first test after Token that a `p` line fails.
abbrev pub pattern_cause : Form → ReadPattern → ReadLater → Option Cause
pattern_cause form pattern later = cause_by (suits_key form pattern.key pattern.values) pattern later

-- The first test after Token that a `p` line without later tokens fails.
abbrev pub token_cause : ReadPattern → Option Cause
token_cause pattern =
    if is_bad pattern then Some BadValue
    else (if pattern.has_two_values then Some TwoValues
    else (if not (has_letter pattern.key) then Some NoLetters else None))

-- The first test after Token that an `e` line fails.
abbrev pub exception_cause : Form → List ℕ → ReadLater → Option Cause
exception_cause form word later =
    option_or (places_cause word later)
    (if not (later.are_sound && list_all (suits_word form word) later.listed) then Some Change else None)

-- Places with their changes, as breaks.
abbrev pub breaks_listed : List (ℕ × Option Changed) → List Break
breaks_listed listed = map (λ b. break_at b.0 b.1) listed

-- The entries of values, with the changes that are listed at their places.
abbrev pub entries_of : {C : Type 0} → (Option Changed → C) → List (ℕ × ℕ) → List (ℕ × Option Changed) → List (Entry C)
entries_of payload_of values listed =
    map (λ v. record { place = v.0; value = v.1; change = payload_of (change_at v.0 (breaks_listed listed)) }) values
