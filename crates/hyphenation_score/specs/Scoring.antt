-- The values of a word's places, and the entries that win them.
-- Sources: F. M. Liang, Word Hy-phen-a-tion by Com-put-er (1983), for keys whose values compete;
-- L. Németh, Automatic non-standard hyphenation in OpenOffice.org, TUGboat 27:1 (2006), for values that carry changes.
use Rattle.std.specs.Prelude.{ℕ, ◌+◌, ◌-◌, ◌==◌, if◌then◌else◌, List, [], ◌∷◌, ◌++◌, length, map, filter, Option, Some, None, unwrap_or, option_copied, slice_range}
use Rattle.std.specs.List.{find, flat_map, range_with_len}
use Rattle.std.specs.Borrow.{Bor}
use Rattle.std.specs.Option.{option_and_then}
use Rattle.hyphenation_breaks.specs.Ascii.{dot}
use Rattle.hyphenation_breaks.specs.Break.{Change}
use Rattle.hyphenation_breaks.specs.Dictionary.{Patterns, greatest}
use Rattle.hyphenation_breaks.specs.Ranks.{greatest_rank}
use Rattle.hyphenation_breaks.specs.declared.entry.Entry.{Entry}

-- The payload of an extended dictionary is the change itself, or none.
abbrev pub own_change : Option Change → Option Change
own_change change = change

-- The frame of a word: the word between two dots. So a dot of a key can match an end of the word.
abbrev pub frame : List ℕ → List ℕ
frame word = dot ∷ word ++ dot ∷ []

-- The places of a word, each between two of its bytes. Place p of the word is place p + 1 of its frame.
abbrev pub places : List ℕ → List ℕ
places word = range_with_len 1 (length word - 1)

-- The entries that bear on the word's place p, of the key that occurs from start to end in the frame; none without one.
abbrev pub bearers_between : {C : Type 0} → Patterns C → List ℕ → ℕ → ℕ → ℕ → List (Entry C)
bearers_between keys framed p start end =
    filter (λ entry. start + entry.place == p + 1) (unwrap_or (keys (slice_range framed start end)) [])

-- The entries that bear on the word's place p, of all keys that occur from start on; shorter keys come first.
abbrev pub bearers_from : {C : Type 0} → Patterns C → List ℕ → ℕ → ℕ → List (Entry C)
bearers_from keys framed p start =
    flat_map (λ end. bearers_between keys framed p start end) (range_with_len (start + 1) (length framed - start))

-- The entries that bear on the word's place p, of all keys that occur in the frame, in the order of their starts.
abbrev pub bearers : {C : Type 0} → Patterns C → List ℕ → ℕ → List (Entry C)
bearers keys framed p = flat_map (λ start. bearers_from keys framed p start) (range_with_len 0 (length framed))

-- The greatest of 0 and the values of the entries.
abbrev pub greatest_value : {C : Type 0} → List (Entry C) → ℕ
greatest_value entries = greatest (map (λ entry. entry.value) entries)

-- The first entry that has the greatest value; none if that value is 0.
abbrev pub first_greatest : {C : Type 0} → List (Entry C) → Option (Entry C)
first_greatest entries =
    if greatest_value entries == 0 then None else find (λ entry. entry.value == greatest_value entries) entries

-- The value of the word's place p: the greatest of 0 and of the values that bear on it.
abbrev pub value_at : {C : Type 0} → Patterns C → List ℕ → ℕ → ℕ
value_at keys word p = greatest_value (bearers keys (frame word) p)

-- The winner of the word's place p: of the entries with its value, the one whose key starts first and then is shortest.
-- None if that value is 0.
abbrev pub winner_at : {C : Type 0} → Patterns C → List ℕ → ℕ → Option (Entry C)
winner_at keys word p = first_greatest (bearers keys (frame word) p)

-- The values of a word's places, from place 1 on.
abbrev pub values : {C : Type 0} → Patterns C → List ℕ → List ℕ
values keys word = map (λ p. value_at keys word p) (places word)

-- The ranks of a word's places, from place 1 on. The rank of a place is the greatest of 0 and the ranks of the entries that
-- bear on it.
abbrev pub ranks : {C : Type 0} → (C → ℕ → ℕ) → Patterns C → List ℕ → List ℕ
ranks rank keys word = map (λ p. greatest_rank rank (bearers keys (frame word) p)) (places word)

-- The winners of a word's places, from place 1 on.
abbrev pub winners : {C : Type 0} → Patterns C → List ℕ → List (Option (Entry C))
winners keys word = map (λ p. winner_at keys word p) (places word)

-- The value that an entry gives; 0 without one.
abbrev pub value_of : {C : Type 0} → Option (Entry C) → ℕ
value_of None = 0
value_of (Some entry) = entry.value

-- The score of a place: its value with the change of its winner.
pub record Scored : Type 0 where
  pub value : ℕ
  pub change : Option Change

-- The score of a place in a standard dictionary: a value without a change.
abbrev pub plain_value : ℕ → Scored
plain_value value = record { value = value; change = None }

-- The score of a place with this winner, given the change that a payload carries.
abbrev pub score_of_winner : {C : Type 0} → (C → Option Change) → Option (Entry C) → Scored
score_of_winner change_of winner =
    record { value = value_of winner; change = option_and_then (λ entry. change_of entry.change) winner }

-- The scores of a word's places, from place 1 on.
abbrev pub scores : {C : Type 0} → (C → Option Change) → Patterns C → List ℕ → List Scored
scores change_of keys word = map (score_of_winner change_of) (winners keys word)

-- A value with a borrowed change or none, as a score.
abbrev pub scored_pair : ℕ × Option (Bor Change) → Scored
scored_pair pair = record { value = pair.0; change = option_copied pair.1 }
