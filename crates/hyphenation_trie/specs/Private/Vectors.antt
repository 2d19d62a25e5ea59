-- The facts that are known of nodes so far, by numbers of pairs of a vector and a count.
use Rattle.std.specs.Prelude.{◌≡◌, ℕ, ◌<◌, List, [], length, slice_index, slice_index_or}
use Rattle.hyphenation_breaks.specs.declared.entry.Entry.{Entry}
use Rattle.hyphenation_trie.specs.Pairs.{ArePairs}
use Rattle.hyphenation_trie.specs.Private.Known.{IsKnown, IsKnownNode}
use Rattle.hyphenation_trie.specs.Trie.{Tree, node_text, entries_of_key}

-- The node is known by this number.
pub record IsKnownAt {C : Type 0} (rank : C → ℕ → ℕ) (tree : Tree (Entry C)) (vectors : List (List ℕ)) (counts : List ℕ) (number node : ℕ)
    : Type 0 where
  pub within : number < length vectors
  pub known : IsKnown rank (entries_of_key tree) (node_text tree node) (slice_index_or vectors number []) (slice_index counts number)

-- The root and the first n nodes of the order are known.
pub record AreKnownTo {C : Type 0} (rank : C → ℕ → ℕ) (tree : Tree (Entry C)) (order numbers : List ℕ) (vectors : List (List ℕ))
    (counts : List ℕ) (n : ℕ) : Type 0 where
  pub nodes : length numbers ≡ length tree.texts
  pub pairs : ArePairs vectors counts
  pub root : slice_index numbers 0 ≡ 0
  pub first : IsKnownNode rank tree numbers vectors counts 0
  pub each : (i : ℕ) → i < n → IsKnownNode rank tree numbers vectors counts (slice_index order i)
