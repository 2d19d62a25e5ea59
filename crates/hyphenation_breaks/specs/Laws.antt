-- Laws of breaks, entries and codes.
use Rattle.std.specs.Prelude.{◌≡◌, ◌↔◌, ℕ, ◌+◌, ◌&&◌, nat_le, Bool, true, List, [], ◌∷◌, Option, IsTrue, IsUtf8, IsCharBoundary}
use Rattle.hyphenation_breaks.specs.Break.{Break, Change, is_boundary}
use Rattle.hyphenation_breaks.specs.Invariant.{is_value, stays_within, lists_within, are_entries, are_listed}
use Rattle.hyphenation_breaks.specs.Language.{IsCode}
use Rattle.hyphenation_breaks.specs.declared.entry.Entry.{Entry}

-- Listed breaks from a least place on, judged one after the other. The place of each is at least the least one, which is
-- then the next place, and is a character boundary. The change of each can be written, and keeps within the word.
abbrev pub listed_from : {B : Type 0} → (B → Break) → List ℕ → ℕ → List B → Bool
listed_from break_of word least [] = true
listed_from break_of word least (b ∷ bs) =
    nat_le least (break_of b).place && is_boundary word (break_of b).place
    && lists_within word (break_of b).place (break_of b).change
    && listed_from break_of word ((break_of b).place + 1) bs

-- The test of one entry: its value is from 1 to 255, and its change can be written and keeps within the key.
abbrev pub is_entry : {C : Type 0} → (C → Option Change) → List ℕ → Entry C → Bool
is_entry change_of key e = is_value e.value && stays_within key e.place (change_of e.change)

-- Entries from a least place on, judged one after the other.
abbrev pub entries_from : {C : Type 0} → (C → Option Change) → List ℕ → ℕ → List (Entry C) → Bool
entries_from change_of key least [] = true
entries_from change_of key least (e ∷ es) =
    nat_le least e.place && is_boundary key e.place && is_value e.value && stays_within key e.place (change_of e.change)
    && entries_from change_of key (e.place + 1) es

-- Judging all listed breaks equals judging them one after the other.
abbrev pub ListedInOrder : Type 0 → Type 0
ListedInOrder B =
    (break_of : B → Break) (word : List ℕ) (listed : List B)
    → are_listed break_of word listed ≡ listed_from break_of word 0 listed

-- Judging all entries of a key equals judging them one after the other.
abbrev pub EntriesInOrder : Type 0 → Type 0
EntriesInOrder C =
    (change_of : C → Option Change) (key : List ℕ) (entries : List (Entry C))
    → are_entries change_of key entries ≡ entries_from change_of key 0 entries

-- The test of a boundary finds exactly the character boundaries of the standard library.
abbrev pub BoundaryIsOfChars : Type 0
BoundaryIsOfChars = (text : List ℕ) (at : ℕ) → IsTrue (is_boundary text at) ↔ IsCharBoundary text at

-- The code of a language is UTF-8.
abbrev pub CodesAreText : Type 0
CodesAreText = (code : List ℕ) → IsCode code → IsUtf8 code
