-- Counts of look-ups and reports around the search of one word.
use Rattle.std.specs.Prelude.{◌≡◌, ℕ, ◌+◌, ◌*◌, ◌≤◌, List, length, None}
use Rattle.hyphenation_breaks.specs.Dictionary.{Contents, Patterns, entries_of_keys, longest_key}
use Rattle.hyphenation_trie.specs.Counts.{Counts}
use Rattle.hyphenation_score.specs.OnePass.{occurrences}
use Rattle.hyphenation_score.specs.Scoring.{frame}

-- Counts before and after the search of a word. The three numbers are the bytes of the word, those of the longest key, and the
-- occurrences of keys in the word's frame. Memory may run out before the search or after it; all is counted if the search
-- ended.
pub record CountsWithin (bytes longest occurring : ℕ) (old new : Counts) (ended : Type 0) : Type 0 where
  pub most : new.made ≤ old.made + (bytes + 2) * (longest + 1)
  pub linear : new.made ≤ old.made + 2 * (bytes + 2)
  pub made_grows : old.made ≤ new.made
  pub reported_grows : old.reported ≤ new.reported
  pub reported_at_most : new.reported ≤ old.reported + occurring
  pub each_byte : ended → old.made + (bytes + 2) ≤ new.made
  pub each_occurrence : ended → new.reported ≡ old.reported + occurring

-- A number is 0 only if there are no keys.
abbrev pub IsZeroWithoutKeys : {C : Type 0} → Patterns C → ℕ → Type 0
IsZeroWithoutKeys keys number = number ≡ 0 → (text : List ℕ) → keys text ≡ None

-- The bounds for a word and the patterns of a dictionary.
abbrev pub CountsOf : {C B : Type 0} → Contents C B → List ℕ → Counts → Counts → Type 0 → Type 0
CountsOf contents word old new ended =
    CountsWithin (length word) (longest_key contents) (occurrences (entries_of_keys contents) (frame word)) old new ended

-- The bounds for a word and patterns, whatever the longest key is, if it is 0 only without keys.
abbrev pub CountsBy : {C : Type 0} → Patterns C → List ℕ → Counts → Counts → Type 0 → Type 0
CountsBy keys word old new ended =
    (longest : ℕ) → IsZeroWithoutKeys keys longest
    → CountsWithin (length word) longest (occurrences keys (frame word)) old new ended
