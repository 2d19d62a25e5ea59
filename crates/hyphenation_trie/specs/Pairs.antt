-- Pairs of a vector and a count, each at its number.
use Rattle.std.specs.Prelude.{◌≡◌, ℕ, ◌<◌, ◌≤◌, List, [], length, slice_index, slice_index_or}
use Rattle.hyphenation_trie.specs.declared.table.pairs.Pairs.{Pairs}

-- There are as many counts as vectors, at most 4096.
pub record ArePairs (vectors : List (List ℕ)) (counts : List ℕ) : Type 0 where
  pub counts_of : length counts ≡ length vectors
  pub few : length vectors ≤ 4096

-- The pair has this number.
pub record IsPairAt (vectors : List (List ℕ)) (counts : List ℕ) (number : ℕ) (vector : List ℕ) (count : ℕ) : Type 0 where
  pub within : number < length vectors
  pub vector_is : slice_index_or vectors number [] ≡ vector
  pub count_is : slice_index counts number ≡ count

-- Each pair keeps its number.
abbrev pub KeepsPairs : List (List ℕ) → List ℕ → List (List ℕ) → List ℕ → Type 0
KeepsPairs old_vectors old_counts vectors counts =
    (k : ℕ) → k < length old_vectors
    → IsPairAt vectors counts k (slice_index_or old_vectors k []) (slice_index old_counts k)

-- The pairs can be looked up.
pub record CanBeFound (pairs : Pairs) : Type 0 where
  pub are_pairs : ArePairs pairs.vectors.items pairs.counts.items
  pub slots_of : length pairs.slots.items ≡ 8192
