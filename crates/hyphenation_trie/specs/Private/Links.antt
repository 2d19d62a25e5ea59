-- Depths and parents of nodes.
use Rattle.std.specs.Prelude.{◌≡◌, ◌≢◌, ℕ, ◌<◌, List, [], ◌∷◌, ◌++◌, length, slice_index, slice_index_or, Option, Some, None}
use Rattle.hyphenation_trie.specs.Trie.{Tree, node_text}

-- The depth of each node is the length of its text.
pub record HasDepths (texts : List (List ℕ)) (depths : List ℕ) : Type 0 where
  pub lengths : length depths ≡ length texts
  pub each : (j : ℕ) → j < length texts → slice_index depths j ≡ length (slice_index_or texts j [])

-- The parent of each node but the root comes before it, and the node's text is the parent's with one more byte.
pub record HasParents (texts : List (List ℕ)) (parents bytes : List ℕ) : Type 0 where
  pub nodes : length parents ≡ length texts
  pub bytes_of : length bytes ≡ length texts
  pub each : (j : ℕ) → 0 < j → j < length texts
      → (slice_index parents j < j)
      × (slice_index_or texts j [] ≡ slice_index_or texts (slice_index parents j) [] ++ slice_index bytes j ∷ [])

-- The parent of a node; 0 for the root, which has none.
abbrev pub parent_of : Option (ℕ × ℕ) → ℕ
parent_of None = 0
parent_of (Some from) = from.0

-- The byte that leads to a node from its parent; 0 for the root, which has none.
abbrev pub byte_of : Option (ℕ × ℕ) → ℕ
byte_of None = 0
byte_of (Some from) = from.1

-- No node is the child of a node at a byte.
abbrev pub HasNoChild : {E : Type 0} → Tree E → ℕ → ℕ → Type 0
HasNoChild tree node b = (j : ℕ) → j < length tree.texts → node_text tree j ≢ node_text tree node ++ b ∷ []
