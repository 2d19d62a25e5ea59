-- The greatest ranks that the keys which end a text give to the places before its end.
use Rattle.std.specs.Prelude.{◌≡◌, ℕ, ◌+◌, ◌<◌, ◌≤◌, ◌==◌, List, [], length, drop, filter, slice_index, unwrap_or, is_some, count_by, Some}
use Rattle.std.specs.List.{flat_map, range_with_len, IsAmong}
use Rattle.hyphenation_breaks.specs.Dictionary.{Patterns}
use Rattle.hyphenation_breaks.specs.Ranks.{greatest_rank}
use Rattle.hyphenation_breaks.specs.declared.entry.Entry.{Entry}

-- The entries at a distance before the end of a text, of all keys that end the text.
abbrev pub entries_before : {C : Type 0} → Patterns C → List ℕ → ℕ → List (Entry C)
entries_before keys text distance =
    flat_map (λ d. filter (λ entry. d + entry.place + distance == length text) (unwrap_or (keys (drop d text)) []))
    (range_with_len 0 (length text))

-- The number of keys that end a text.
abbrev pub keys_at_end : {C : Type 0} → Patterns C → List ℕ → ℕ
keys_at_end keys text = count_by (λ d. is_some (keys (drop d text))) (range_with_len 0 (length text))

-- The vector of a text: the greatest ranks 15 bytes before its end, 14 bytes before it, and so on to the end itself.
pub record IsVector {C : Type 0} (rank : C → ℕ → ℕ) (keys : Patterns C) (text vector : List ℕ) : Type 0 where
  pub lanes : length vector ≡ 16
  pub each : (lane distance : ℕ) → lane + distance ≡ 15
      → slice_index vector lane ≡ greatest_rank rank (entries_before keys text distance)

-- No entry of a key with this number of bytes is more than 15 bytes before the key's end, or past it.
abbrev pub AreNearEntries : {C : Type 0} → List (Entry C) → ℕ → Type 0
AreNearEntries {C} entries bytes = (entry : Entry C) → IsAmong entries entry → (entry.place ≤ bytes) × (bytes ≤ entry.place + 15)

-- No entry is more than 15 bytes before the end of its key, or past it.
abbrev pub AreNear : {C : Type 0} → Patterns C → Type 0
AreNear {C} keys =
    (text : List ℕ) (entries : List (Entry C)) → 0 < length text → keys text ≡ Some entries
    → AreNearEntries entries (length text)
