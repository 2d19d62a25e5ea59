-- Laws of values and winners, in terms of single keys.
use Rattle.std.specs.Prelude.{◌≡◌, ℕ, ◌+◌, ◌-◌, ◌/◌, ◌%◌, ◌<◌, ◌≤◌, ◌⊎◌, ◌↔◌, List, length, map, slice_get, Option, Some, None}
use Rattle.std.specs.Borrow.{Bor}
use Rattle.std.specs.Option.{option_and_then}
use Rattle.hyphenation_breaks.specs.Break.{Change}
use Rattle.hyphenation_breaks.specs.Dictionary.{Patterns}
use Rattle.hyphenation_breaks.specs.Ranks.{greatest_rank, rank_with_change}
use Rattle.hyphenation_breaks.specs.declared.entry.Entry.{Entry}
use Rattle.hyphenation_score.specs.Scoring.{bearers, frame, value_at, values, value_of, winner_at, winners, scored_pair, scores}
use Rattle.hyphenation_score.specs.Winners.{BestSoFar, IsPair, IsBestOf, Bears, Wins}

-- A place's value is at least each value that bears on it.
abbrev pub ValueIsGreatest : Type 0 → Type 0
ValueIsGreatest C =
    (keys : Patterns C) (word : List ℕ) (p start end : ℕ) (entry : Entry C) → Bears keys word p start end entry
    → entry.value ≤ value_at keys word p

-- A place's value is 0, or one that bears on it.
abbrev pub ValueIsBorne : Type 0 → Type 0
ValueIsBorne C =
    (keys : Patterns C) (word : List ℕ) (p : ℕ)
    → (value_at keys word p ≡ 0)
    ⊎ ((start : ℕ) × (end : ℕ) × (entry : Entry C) × (Bears keys word p start end entry)
    × (entry.value ≡ value_at keys word p))

-- A place has no winner exactly where its value is 0.
abbrev pub WinnerIsMissing : Type 0 → Type 0
WinnerIsMissing C =
    (keys : Patterns C) (word : List ℕ) (p : ℕ) → winner_at keys word p ≡ None ↔ value_at keys word p ≡ 0

-- A winner gives the place its value. Among the entries that give it the winner's key starts first; among those that start
-- there it ends first.
abbrev pub WinnerIsFirst : Type 0 → Type 0
WinnerIsFirst C =
    (keys : Patterns C) (word : List ℕ) (p : ℕ) (entry : Entry C) → winner_at keys word p ≡ Some entry
    → (start : ℕ) × (end : ℕ) × (Wins keys word p start end entry) × (entry.value ≡ value_at keys word p)

-- An entry is the winner if its value is above 0 and it comes first among those that give the place its value. Its key
-- must have no other entry at the place.
abbrev pub FirstIsWinner : Type 0 → Type 0
FirstIsWinner C =
    (keys : Patterns C) (word : List ℕ) (p start end : ℕ) (entry : Entry C) → 0 < entry.value
    → Wins keys word p start end entry → ((other : Entry C) → Bears keys word p start end other → other ≡ entry)
    → winner_at keys word p ≡ Some entry

-- The values of a word are in the order of its places.
abbrev pub ValuesAreOfPlaces : Type 0 → Type 0
ValuesAreOfPlaces C =
    (keys : Patterns C) (word : List ℕ) (i : ℕ) → i + 1 < length word
    → slice_get (values keys word) i ≡ Some (value_at keys word (i + 1))

-- A word has one value fewer than bytes, and the empty word has none.
abbrev pub ValuesAreOneLess : Type 0 → Type 0
ValuesAreOneLess C = (keys : Patterns C) (word : List ℕ) → length (values keys word) ≡ length word - 1

-- The winners of a word are in the order of its places.
abbrev pub WinnersAreOfPlaces : Type 0 → Type 0
WinnersAreOfPlaces C =
    (keys : Patterns C) (word : List ℕ) (i : ℕ) → i + 1 < length word
    → slice_get (winners keys word) i ≡ Some (winner_at keys word (i + 1))

-- A word has one winner, or none in its place, fewer than bytes, and the empty word has none.
abbrev pub WinnersAreOneLess : Type 0 → Type 0
WinnersAreOneLess C = (keys : Patterns C) (word : List ℕ) → length (winners keys word) ≡ length word - 1

-- The best of all pairs of a start and an end gives the winner, even if keys are met by their ends.
abbrev pub BestOfAllWins : Type 0 → Type 0
BestOfAllWins C =
    (keys : Patterns C) (word : List ℕ) (p : ℕ) (now : BestSoFar C) → IsBestOf keys (frame word) p (IsPair (frame word)) now
    → now.0 ≡ winner_at keys word p

-- The value of a place is that of its winner; it is 0 without a winner.
abbrev pub WinnerHasValue : Type 0 → Type 0
WinnerHasValue C = (keys : Patterns C) (word : List ℕ) (p : ℕ) → value_of (winner_at keys word p) ≡ value_at keys word p

-- The values of a word's scores are the word's values.
abbrev pub ScoresHaveValues : Type 0 → Type 0
ScoresHaveValues C =
    (change_of : C → Option Change) (keys : Patterns C) (word : List ℕ) (pairs : List (ℕ × Option (Bor Change)))
    → map scored_pair pairs ≡ scores change_of keys word → map (λ pair. pair.0) pairs ≡ values keys word

-- The rank of a place in an extended dictionary is twice the place's value, or one more. In the first case the winner carries
-- no change.
abbrev pub RanksShowChanges : Type 0
RanksShowChanges =
    (keys : Patterns (Option Change)) (word : List ℕ) (p : ℕ)
    → (greatest_rank rank_with_change (bearers keys (frame word) p) / 2 ≡ value_at keys word p)
    × (greatest_rank rank_with_change (bearers keys (frame word) p) % 2 ≡ 0
    → option_and_then (λ entry. entry.change) (winner_at keys word p) ≡ None)

-- Patterns with equal keys and entries give equal values.
abbrev pub SameKeysSameValues : Type 0 → Type 0
SameKeysSameValues C =
    (keys other : Patterns C) (word : List ℕ) → ((text : List ℕ) → keys text ≡ other text)
    → values keys word ≡ values other word

-- Patterns with equal keys and entries give equal winners.
abbrev pub SameKeysSameWinners : Type 0 → Type 0
SameKeysSameWinners C =
    (keys other : Patterns C) (word : List ℕ) → ((text : List ℕ) → keys text ≡ other text)
    → winners keys word ≡ winners other word
