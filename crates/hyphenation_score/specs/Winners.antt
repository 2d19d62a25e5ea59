-- Entries that bear on a place or win it, in terms of single keys, whatever the order in which the keys are met.
use Rattle.std.specs.Prelude.{◌≡◌, ℕ, ◌<◌, ◌≤◌, ◌⊎◌, List, length, Option, Some, None, slice_range, ◌+◌}
use Rattle.hyphenation_breaks.specs.Dictionary.{Patterns}
use Rattle.hyphenation_breaks.specs.declared.entry.Entry.{Entry}
use Rattle.hyphenation_score.specs.Scoring.{bearers_between, first_greatest, greatest_value, frame}
use Rattle.std.specs.List.{IsAmong}

-- The key that occurs in the word's frame from start to end has this entry, and the entry bears on the word's place p.
pub record Bears {C : Type 0} (keys : Patterns C) (word : List ℕ) (p start end : ℕ) (entry : Entry C) : Type 0 where
  pub not_empty : start < end
  pub within : end ≤ length (frame word)
  pub entries : List (Entry C)
  pub key : keys (slice_range (frame word) start end) ≡ Some entries
  pub among : IsAmong entries entry
  pub place : start + entry.place ≡ p + 1

-- One occurrence comes before another: its start is less, or equal and its end is no greater.
abbrev pub Before : ℕ → ℕ → ℕ → ℕ → Type 0
Before start end other_start other_end = (start < other_start) ⊎ ((start ≡ other_start) × (end ≤ other_end))

-- The entry wins the place. It bears on the place, no entry that does has a greater value, and it comes before all
-- others with its value.
pub record Wins {C : Type 0} (keys : Patterns C) (word : List ℕ) (p start end : ℕ) (entry : Entry C) : Type 0 where
  pub bears : Bears keys word p start end entry
  pub most : (other_start other_end : ℕ) (other : Entry C) → Bears keys word p other_start other_end other
      → other.value ≤ entry.value
  pub before : (other_start other_end : ℕ) (other : Entry C) → Bears keys word p other_start other_end other
      → other.value ≡ entry.value → Before start end other_start other_end

-- The pairs of a start and a greater end in a frame.
abbrev pub IsPair : List ℕ → ℕ → ℕ → Type 0
IsPair framed start end = (start < end) × (end ≤ length framed)

-- One of the pairs in question gives the place the greatest value, by this entry, and comes before all others that give
-- that value.
pub record IsBest {C : Type 0} (keys : Patterns C) (framed : List ℕ) (p : ℕ) (asked : ℕ → ℕ → Type 0) (start end : ℕ)
    (entry : Entry C) : Type 0 where
  pub pair : asked start end
  pub first : first_greatest (bearers_between keys framed p start end) ≡ Some entry
  pub most : (s e : ℕ) → asked s e → greatest_value (bearers_between keys framed p s e) ≤ entry.value
  pub before : (s e : ℕ) → asked s e → greatest_value (bearers_between keys framed p s e) ≡ entry.value
      → Before start end s e

-- The best so far: an entry, if any, with the start of its key; 0 without an entry.
abbrev pub BestSoFar : Type 0 → Type 0
BestSoFar C = Option (Entry C) × ℕ

-- The best so far is the best of the pairs in question.
abbrev pub IsBestOf : {C : Type 0} → Patterns C → List ℕ → ℕ → (ℕ → ℕ → Type 0) → BestSoFar C → Type 0
IsBestOf {C} keys framed p asked now =
    ((now.0 ≡ None) × (now.1 ≡ 0) × ((s e : ℕ) → asked s e → greatest_value (bearers_between keys framed p s e) ≡ 0))
    ⊎ ((entry : Entry C) × (end : ℕ) × (now.0 ≡ Some entry) × IsBest keys framed p asked now.1 end entry)
