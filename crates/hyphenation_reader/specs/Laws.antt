-- Laws of texts that are read, and of edits, for both kinds and both versions.
-- Each law is for all kinds: payload_of and listing_of say what a kind of dictionary holds for a change and a break.
use Rattle.std.specs.Prelude.{◌≡◌, ℕ, ◌↔◌, Any, Contains, List, [], ◌∷◌, Option, Some, None, IsTrue, IsUtf8, find, if◌then◌else◌, map, unwrap_or}
use Rattle.std.specs.List.Sorted.{IsPermutation}
use Rattle.std.specs.FinMap as finite
use Rattle.hyphenation_breaks.specs.Break.{Break, Change}
use Rattle.hyphenation_breaks.specs.Dictionary.{Contents}
use Rattle.hyphenation_grammar.specs.Form.{version_of}
use Rattle.hyphenation_breaks.specs.Invariant.{IsPattern, IsException}
use Rattle.hyphenation_grammar.specs.Items.{is_pattern_line, is_exception_line, pattern_of_line, exception_of_line, key_of_line, entries_of_line, breaks_of_line, word_of_line}
use Rattle.hyphenation_grammar.specs.Judging.{fault_of, fails, own_cause}
use Rattle.hyphenation_grammar.specs.declared.form.Form.{Form}
use Rattle.hyphenation_grammar.specs.Lines.{is_same}
use Rattle.hyphenation_grammar.specs.Reading.{contents_of, spelling_as, entry_as}
use Rattle.hyphenation_breaks.specs.declared.entry.Entry.{Entry}
use Rattle.hyphenation_grammar.specs.declared.form.Kind.{Kind}
use Rattle.hyphenation_grammar.specs.declared.form.Version.TheVariants.{First}
use Rattle.hyphenation_grammar.specs.declared.Cause.TheVariants.{Token, Number, Place, Change as BadChange}
use Rattle.hyphenation_grammar.specs.declared.form.Version.{Version}
use Rattle.hyphenation_reader.specs.Edits.{after_edits, as_line, cause_in, edit_line, form_in, is_addition}
use Rattle.std.specs.Option.{option_or}

-- A line that fails no test by itself spells a key with entries, or a word with breaks, that a dictionary may hold.
abbrev pub SpeltIsSound : Type 0
SpeltIsSound =
    (form : Form) (number : ℕ) (line : List ℕ) → own_cause form number line ≡ None
    → (IsTrue (is_pattern_line line)
    → IsPattern (λ change. change) (key_of_line form.version line) (entries_of_line form.version line))
    × (IsTrue (is_exception_line line) → IsException (λ b. b) (word_of_line line) (breaks_of_line line))

-- A key has exactly the entries that some `p` line spells for it.
abbrev pub KeysAreSpelt : Type 0 → Type 0 → Type 0
KeysAreSpelt C B =
    (kind : Kind) (payload_of : Option Change → C) (listing_of : Break → B) (lines : List (List ℕ)) (key : List ℕ)
    (entries : List (Entry C)) → fault_of kind lines ≡ None
    → (finite.get (contents_of kind payload_of listing_of lines).patterns key ≡ Some entries)
    ↔ Any (λ line. spelling_as (entry_as payload_of) (pattern_of_line (version_of kind lines)) line
    ≡ Some (key, entries))
    lines

-- A word has exactly the breaks that some `e` line lists for it.
abbrev pub WordsAreSpelt : Type 0 → Type 0 → Type 0
WordsAreSpelt C B =
    (kind : Kind) (payload_of : Option Change → C) (listing_of : Break → B) (lines : List (List ℕ)) (word : List ℕ)
    (listed : List B) → fault_of kind lines ≡ None
    → (finite.get (contents_of kind payload_of listing_of lines).exceptions word ≡ Some listed)
    ↔ Any (λ line. spelling_as listing_of exception_of_line line ≡ Some (word, listed)) lines

-- Two accepted texts with the same lines after the third, in any order, give the same dictionary.
abbrev pub OrderMeansNothing : Type 0 → Type 0 → Type 0
OrderMeansNothing C B =
    (kind : Kind) (payload_of : Option Change → C) (listing_of : Break → B) (first second third : List ℕ)
    (ls ms : List (List ℕ))
    → fault_of kind (first ∷ second ∷ third ∷ ls) ≡ None → fault_of kind (first ∷ second ∷ third ∷ ms) ≡ None
    → ((line : List ℕ) → Contains ls line ↔ Contains ms line)
    → contents_of kind payload_of listing_of (first ∷ second ∷ third ∷ ls)
    ≡ contents_of kind payload_of listing_of (first ∷ second ∷ third ∷ ms)

-- An accepted text stays accepted when its lines after the third are put in another order.
abbrev pub AcceptedInAnyOrder : Type 0
AcceptedInAnyOrder =
    (kind : Kind) (first second third : List ℕ) (ls ms : List (List ℕ)) → IsPermutation ls ms
    → fault_of kind (first ∷ second ∷ third ∷ ls) ≡ None → fault_of kind (first ∷ second ∷ third ∷ ms) ≡ None

-- The word that an edit names.
abbrev pub word_named : List ℕ → List ℕ
word_named edit = word_of_line (edit_line edit)

-- The breaks that an edit lists for its word; none if it removes the word.
abbrev pub effect_on_word : {B : Type 0} → (Break → B) → List ℕ → Option (List B)
effect_on_word listing_of edit =
    if is_addition edit then Some (map listing_of (breaks_of_line (edit_line edit))) else None

-- The effect of the last edit that names a word; none if no edit names it.
abbrev pub last_effect_on : {B : Type 0} → (Break → B) → List ℕ → List (List ℕ) → Option (Option (List B))
last_effect_on listing_of word [] = None
last_effect_on listing_of word (edit ∷ edits) =
    option_or (last_effect_on listing_of word edits)
    (if is_same (word_named edit) word then Some (effect_on_word listing_of edit) else None)

-- The last edit that names a word decides on it. Without one, the word stays as it is in the dictionary.
abbrev pub LastDecides : Type 0 → Type 0 → Type 0
LastDecides C B = (listing_of : Break → B) (dictionary : Contents C B) (edits : List (List ℕ)) (word : List ℕ) →
    finite.get (after_edits listing_of dictionary edits).exceptions word
    ≡ unwrap_or (last_effect_on listing_of word edits) (finite.get dictionary.exceptions word)

-- Both versions judge the line of an edit alike.
abbrev pub VersionsAgree : Type 0
VersionsAgree =
    (kind : Kind) (version : Version) (edit : List ℕ)
    → cause_in kind version (edit_line edit) ≡ cause_in kind First (edit_line edit)

-- The line of an exception can fail these tests by itself, and no others.
abbrev pub FourTests : Type 0
FourTests = (kind : Kind) (version : Version) (exception : List ℕ) → IsUtf8 exception →
    cause_in kind version (as_line exception)
    ≡ find (fails (form_in kind version) 4 (as_line exception)) (Token ∷ Number ∷ Place ∷ BadChange ∷ [])
