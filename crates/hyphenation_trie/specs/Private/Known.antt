-- The facts that are known of the nodes of a trie while a table is made of it.
use Rattle.std.specs.Prelude.{◌≡◌, ℕ, ◌+◌, ◌*◌, ◌<◌, ◌≤◌, ◌==◌, max, List, [], ◌∷◌, ◌++◌, length, filter, slice_index, slice_index_or, Some}
use Rattle.hyphenation_breaks.specs.Dictionary.{Patterns}
use Rattle.hyphenation_breaks.specs.Ranks.{greatest_rank}
use Rattle.hyphenation_breaks.specs.declared.entry.Entry.{Entry}
use Rattle.hyphenation_trie.specs.Trie.{Tree, node_text, entries_of_key}
use Rattle.hyphenation_trie.specs.Vectors.{AreNearEntries, IsVector, keys_at_end}

-- The new vector is the old one raised to the ranks of entries of a key with that many bytes.
pub record IsRaisedBy {C : Type 0} (rank : C → ℕ → ℕ) (old new : List ℕ) (entries : List (Entry C)) (bytes : ℕ) : Type 0 where
  pub lanes : length new ≡ 16
  pub each : (lane distance : ℕ) → lane + distance ≡ 15
      → slice_index new lane ≡ max (slice_index old lane) (greatest_rank rank (filter (λ entry. entry.place + distance == bytes) entries))

-- A text is known: its vector, the number of keys that end it, and that its entries are near if it is a key.
pub record IsKnown {C : Type 0} (rank : C → ℕ → ℕ) (keys : Patterns C) (text values : List ℕ) (count : ℕ) : Type 0 where
  pub vector : IsVector rank keys text values
  pub counted : count ≡ keys_at_end keys text
  pub near : (entries : List (Entry C)) → 0 < length text → keys text ≡ Some entries → AreNearEntries entries (length text)

-- A node is known by its number.
pub record IsKnownNode {C : Type 0} (rank : C → ℕ → ℕ) (tree : Tree (Entry C)) (numbers : List ℕ) (vectors : List (List ℕ)) (counts : List ℕ)
    (node : ℕ) : Type 0 where
  pub within : slice_index numbers node < length vectors
  pub known : IsKnown rank (entries_of_key tree) (node_text tree node) (slice_index_or vectors (slice_index numbers node) [])
      (slice_index counts (slice_index numbers node))

-- All nodes are known. There are at most 4096 numbers, and that of the root is 0.
pub record AreKnown {C : Type 0} (rank : C → ℕ → ℕ) (tree : Tree (Entry C)) (numbers : List ℕ) (vectors : List (List ℕ))
    (counts : List ℕ) : Type 0 where
  pub nodes : length numbers ≡ length tree.texts
  pub counts_of : length counts ≡ length vectors
  pub few : length vectors ≤ 4096
  pub root : slice_index numbers 0 ≡ 0
  pub each : (j : ℕ) → j < length tree.texts → IsKnownNode rank tree numbers vectors counts j

-- The nodes but the root, in the order of their depths.
pub record AreByDepth (texts : List (List ℕ)) (nodes : List ℕ) : Type 0 where
  pub within : (i : ℕ) → i < length nodes → (0 < slice_index nodes i) × (slice_index nodes i < length texts)
  pub all : (j : ℕ) → 0 < j → j < length texts → (i : ℕ) × (i < length nodes) × (slice_index nodes i ≡ j)
  pub ascend : (i k : ℕ) → i ≤ k → k < length nodes
      → length (slice_index_or texts (slice_index nodes i) []) ≤ length (slice_index_or texts (slice_index nodes k) [])

-- The classes of the bytes. A byte of a node has a class of its own above 0, and all other bytes have the class 0.
pub record AreClasses (texts : List (List ℕ)) (classes : List ℕ) (quarter : ℕ) : Type 0 where
  pub all : length classes ≡ 256
  pub below : (b : ℕ) → b < 256 → slice_index classes b < quarter * 4
  pub apart : (b c : ℕ) → b < 256 → c < 256 → slice_index classes b ≡ slice_index classes c → 0 < slice_index classes b → b ≡ c
  pub used : (j b : ℕ) (front : List ℕ) → j < length texts → b < 256 → slice_index_or texts j [] ≡ front ++ b ∷ [] → 0 < slice_index classes b
