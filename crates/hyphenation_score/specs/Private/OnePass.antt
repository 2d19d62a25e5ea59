-- The entries that bear on a place, in the order in which one pass meets them.
use Rattle.std.specs.Prelude.{◌≡◌, ℕ, ◌+◌, ◌-◌, ◌<◌, ◌==◌, List, [], length, drop, filter, unwrap_or}
use Rattle.std.specs.List.{flat_map, fold, range_with_len, slice_index_or}
use Rattle.hyphenation_breaks.specs.Dictionary.{Patterns}
use Rattle.hyphenation_breaks.specs.declared.entry.Entry.{Entry}
use Rattle.hyphenation_score.specs.Scoring.{bearers_between}

-- The entries that bear on the word's place p, of a key with these entries that starts there.
abbrev pub bearing : {C : Type 0} → List (Entry C) → ℕ → ℕ → List (Entry C)
bearing entries start p = filter (λ entry. start + entry.place == p + 1) entries

-- A text ends at a place of the frame. The entries that bear on the word's place p, of the key that is this text without
-- its first d bytes.
abbrev pub entries_of_end : {C : Type 0} → Patterns C → List ℕ → ℕ → ℕ → ℕ → List (Entry C)
entries_of_end keys text end p d = bearing (unwrap_or (keys (drop d text)) []) (end - (length text - d)) p

-- The entries that bear on the word's place p, of all keys that end this text.
abbrev pub entries_of_ends : {C : Type 0} → Patterns C → List ℕ → ℕ → ℕ → List (Entry C)
entries_of_ends keys text end p = flat_map (λ d. entries_of_end keys text end p d) (range_with_len 0 (length text))

-- The entries that bear on the word's place p, of all keys that end there in the frame.
abbrev pub bearers_to : {C : Type 0} → Patterns C → List ℕ → ℕ → ℕ → List (Entry C)
bearers_to keys framed p end = flat_map (λ start. bearers_between keys framed p start end) (range_with_len 0 end)

-- The entries that bear on the word's place p, of all keys in the first bytes of the frame, in the order of their ends.
abbrev pub bearers_by_ends : {C : Type 0} → Patterns C → List ℕ → ℕ → ℕ → List (Entry C)
bearers_by_ends keys framed count p = flat_map (λ end. bearers_to keys framed p end) (range_with_len 1 count)

-- At each index the slot's state is the old one after the entries that were met there, given those of each place.
abbrev pub AreAfter : {C S State : Type 0} → (S → State) → (State → Entry C → State) → List S → (ℕ → List (Entry C))
    → List S → Type 0
AreAfter {S = S} meaning after old met new =
    (i : ℕ) (unused : S) → i < length old
    → meaning (slice_index_or new i unused) ≡ fold after (meaning (slice_index_or old i unused)) (met (i + 1))
