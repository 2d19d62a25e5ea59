-- The vector of a pattern's digits, as it is made, and vectors by their numbers.
use Rattle.std.specs.Prelude.{◌≡◌, ◌⊎◌, ℕ, ◌+◌, ◌<◌, ◌≤◌, List, [], length, replicate, slice_index, slice_index_or}
use Rattle.hyphenation_breaks.specs.Ascii.{digit_zero}
use Rattle.hyphenation_trie.specs.Trie.{Tree}
use Rattle.libhyphen_files.specs.Patterns.{Pattern}
use Rattle.libhyphen_files.specs.Vectors.{IsNumberOf}

-- The vector has the digits of a key with that many bytes, counted from 0. Any other place of the key has '0'.
pub record HasDigitsOf (digits : List ℕ) (bytes : ℕ) (vector : List ℕ) : Type 0 where
  pub lanes : length vector ≡ 16
  pub each : (lane place : ℕ) → lane < 16 → place + 15 ≡ lane + bytes
      → slice_index_or digits place digit_zero ≡ digit_zero + slice_index vector lane
  pub before : (lane : ℕ) → lane + bytes < 15 → slice_index vector lane ≡ 0
  pub far : (place : ℕ) → place + 15 < bytes → slice_index_or digits place digit_zero ≡ digit_zero

-- At most 4096 vectors. The first has no digits, and the second says nothing of a pattern.
pub record AreNumbered (vectors : List (List ℕ)) : Type 0 where
  pub few : length vectors ≤ 4096
  pub two : 2 ≤ length vectors
  pub none : slice_index_or vectors 0 [] ≡ replicate 16 0
  pub unknown : slice_index_or vectors 1 [] ≡ replicate 16 255

-- The number is that of the vector, or of the one that says nothing.
pub record IsAt (vectors : List (List ℕ)) (number : ℕ) (vector : List ℕ) : Type 0 where
  pub within : number < length vectors
  pub found : (slice_index_or vectors number [] ≡ vector) ⊎ (slice_index_or vectors number [] ≡ replicate 16 255)

-- Each vector keeps its number.
pub record KeepsVectors (old new : List (List ℕ)) : Type 0 where
  pub more : length old ≤ length new
  pub same : (number : ℕ) → number < length old → slice_index_or new number [] ≡ slice_index_or old number []

-- The first nodes have numbers of their vectors, the root 0.
pub record AreNodesNumbered (tree : Tree Pattern) (numbers : List ℕ) (vectors : List (List ℕ)) (count : ℕ) : Type 0 where
  pub numbered : AreNumbered vectors
  pub nodes : length numbers ≡ count
  pub root : slice_index numbers 0 ≡ 0
  pub each : (node : ℕ) → node < count → IsNumberOf tree vectors node (slice_index numbers node)
