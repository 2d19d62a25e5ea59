-- Patterns read as LibreOffice reads them: at each letter only the longest beginning of a pattern counts. Sources: F. M. Liang,
-- Word Hy-phen-a-tion by Com-put-er (1983), for patterns that all count; libhyphen 2.8.8, hyphen.c, for the longest beginning.
use Rattle.std.specs.Prelude.{◌≡◌, ℕ, ◌+◌, ◌-◌, ◌<◌, ◌≤◌, ◌⊎◌, ◌==◌, nat_eq, nat_lt, Bool, false, List, [], length, take, drop, filter}
use Rattle.std.specs.Prelude.{slice_range, unwrap_or, IsSome, IsTrue}
use Rattle.std.specs.List.{list_any, range_with_len, starts_with}
use Rattle.std.specs.FinMap as finite
use Rattle.hyphenation_breaks.specs.Dictionary.{Patterns, TextMap}
use Rattle.hyphenation_breaks.specs.declared.entry.Entry.{Entry}
use Rattle.hyphenation_score.specs.Scoring.{frame, greatest_value, value_at}
use Rattle.hyphenation_score.specs.Winners.{Bears}

-- The entries of each text that is a pattern.
abbrev pub entries_of : {C : Type 0} → TextMap (List (Entry C)) → Patterns C
entries_of patterns text = finite.get patterns text

-- ---- As LibreOffice reads them.

-- The text is a beginning of some pattern, maybe the whole of it.
abbrev pub begins_pattern : {C : Type 0} → TextMap (List (Entry C)) → List ℕ → Bool
begins_pattern patterns text = list_any (λ key. starts_with nat_eq key text) (finite.keys patterns)

-- Among the texts of a frame that end there and begin a pattern, the one that starts there is the longest.
pub record IsLongestBeginning {C : Type 0} (patterns : TextMap (List (Entry C))) (framed : List ℕ) (start end : ℕ)
    : Type 0 where
  pub nonempty : start < end
  pub within : end ≤ length framed
  pub begins : IsTrue (begins_pattern patterns (slice_range framed start end))
  pub longest : (other : ℕ) → other < end → IsTrue (begins_pattern patterns (slice_range framed other end))
      → start ≤ other

-- The value is the greatest of 0 and of those that longest beginnings, if they are patterns, give to the word's place
-- p.
pub record IsValueByLongest {C : Type 0} (patterns : TextMap (List (Entry C))) (word : List ℕ) (p value : ℕ)
    : Type 0 where
  pub most : (start end : ℕ) (entry : Entry C) → IsLongestBeginning patterns (frame word) start end
      → Bears (entries_of patterns) word p start end entry → entry.value ≤ value
  pub given : (value ≡ 0)
      ⊎ ((start : ℕ) × (end : ℕ) × (entry : Entry C) × (IsLongestBeginning patterns (frame word) start end)
      × (Bears (entries_of patterns) word p start end entry) × (entry.value ≡ value))

-- ---- Where that makes no difference.

-- The greatest value that a text, as a pattern, gives to a place of its own; 0 if it gives none, or is no pattern.
abbrev pub own_value : {C : Type 0} → Patterns C → List ℕ → ℕ → ℕ
own_value keys text place = greatest_value (filter (λ entry. entry.place == place) (unwrap_or (keys text) []))

-- The end of a text, from start on, is a pattern, and gives some place more than the text itself does.
abbrev pub is_exceeded_from : {C : Type 0} → Patterns C → List ℕ → ℕ → Bool
is_exceeded_from keys text start =
    list_any (λ entry. nat_lt (own_value keys text (start + entry.place)) entry.value)
    (unwrap_or (keys (drop start text)) [])

-- A pattern that ends a text, and is shorter, gives some place more than the text itself does.
abbrev pub is_exceeded : {C : Type 0} → Patterns C → List ℕ → Bool
is_exceeded keys text = list_any (λ start. is_exceeded_from keys text start) (range_with_len 1 (length text - 1))

-- Some beginning of a pattern, maybe the whole of it, is exceeded: LibreOffice then loses that value.
abbrev pub hides_value : {C : Type 0} → Patterns C → List ℕ → Bool
hides_value keys key = list_any (λ len. is_exceeded keys (take len key)) (range_with_len 1 (length key))

-- Patterns are closed if none of them hides a value.
abbrev pub IsClosed : {C : Type 0} → Patterns C → Type 0
IsClosed keys = (key : List ℕ) → IsSome (keys key) → hides_value keys key ≡ false

-- In closed patterns the longest beginnings give each place the greatest value over all patterns.
abbrev pub ClosedReadAlike : Type 0 → Type 0
ClosedReadAlike C =
    (patterns : TextMap (List (Entry C))) → IsClosed (entries_of patterns) → (word : List ℕ) (p : ℕ)
    → IsValueByLongest patterns word p (value_at (entries_of patterns) word p)
