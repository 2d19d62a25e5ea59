-- Rows of a table while they are made.
use Rattle.std.specs.Prelude.{◌≡◌, ◌≢◌, ℕ, ◌+◌, ◌*◌, ◌^◌, ◌<◌, ◌≤◌, ◌⊎◌, Bool, true, false, List, [], ◌∷◌, ◌++◌, length, slice_index, slice_index_or}
use Rattle.hyphenation_trie.specs.Cells.{numbers_of, IsSplit}
use Rattle.hyphenation_trie.specs.Trie.{Tree, node_text}
use Rattle.hyphenation_trie.specs.Steps.{IsLongestInner}
use Rattle.hyphenation_trie.specs.declared.table.split.Split.{Split}
use Rattle.hyphenation_trie.specs.Private.Known.{AreClasses}

-- The parents of the nodes before a bound are marked.
pub record AreInner {E : Type 0} (tree : Tree E) (marks : List Bool) (bound : ℕ) : Type 0 where
  pub nodes : length marks ≡ length tree.texts
  pub each : (j byte k : ℕ) → 0 < j → j < bound → k < length tree.texts → node_text tree j ≡ node_text tree k ++ byte ∷ []
      → slice_index_or marks k false ≡ true

-- A node has the row of the longest node with children that ends its text.
pub record HasRowOf {E : Type 0} (tree : Tree E) (nodes of : List ℕ) (node : ℕ) : Type 0 where
  pub row : slice_index of node < length nodes
  pub inner : IsLongestInner tree (node_text tree node) (slice_index nodes (slice_index of node))

-- Each marked node before a bound has a row of its own, and so has the root, the first one.
pub record AreOwnRows (marks : List Bool) (nodes of : List ℕ) (bound : ℕ) : Type 0 where
  pub rows_of : length of ≡ length marks
  pub has_root : 0 < length nodes
  pub root : slice_index nodes 0 ≡ 0
  pub within : (r : ℕ) → r < length nodes → slice_index nodes r < bound
  pub marked : (r : ℕ) → 0 < r → r < length nodes
      → (0 < slice_index nodes r) × (slice_index_or marks (slice_index nodes r) false ≡ true)
  pub own : (r : ℕ) → r < length nodes → slice_index of (slice_index nodes r) ≡ r
  pub each : (j : ℕ) → 0 < j → j < bound → slice_index_or marks j false ≡ true
      → (slice_index of j < length nodes) × (slice_index nodes (slice_index of j) ≡ j)

-- These are the nodes of rows. The first is the root. Each has its own row.
pub record AreRowNodes {E : Type 0} (tree : Tree E) (nodes of : List ℕ) : Type 0 where
  pub rows_of : length of ≡ length tree.texts
  pub has_root : 0 < length nodes
  pub root : slice_index nodes 0 ≡ 0
  pub within : (r : ℕ) → r < length nodes → slice_index nodes r < length tree.texts
  pub after_root : (r : ℕ) → 0 < r → r < length nodes → 0 < slice_index nodes r
  pub own : (r : ℕ) → r < length nodes → slice_index of (slice_index nodes r) ≡ r

-- The rows of all nodes.
pub record AreRowsOf {E : Type 0} (tree : Tree E) (nodes of : List ℕ) : Type 0 where
  pub rows : AreRowNodes tree nodes of
  pub each : (j : ℕ) → j < length tree.texts → HasRowOf tree nodes of j

-- The cell that leads to a node: the place of its row, and its number.
abbrev pub cell_of : List ℕ → List ℕ → ℕ → Split → ℕ → ℕ
cell_of of numbers quarter split node = slice_index numbers node * 2 ^ split.place_bits + slice_index of node * quarter

-- The rows, numbers and classes of which the cells of a table are made. They fit each other, and fit in a cell.
pub record AreParts {E : Type 0} (tree : Tree E) (nodes of numbers classes : List ℕ) (quarter : ℕ) (split : Split) : Type 0 where
  pub rows : AreRowsOf tree nodes of
  pub classes_of : AreClasses tree.texts classes quarter
  pub nodes_of : length numbers ≡ length tree.texts
  pub few : (j : ℕ) → j < length tree.texts → slice_index numbers j < numbers_of split
  pub split_of : IsSplit split
  pub places : length nodes * quarter ≤ split.last_place

-- The cell of a node at a byte leads to the child there, or is another one and no node after a bound is a child there.
abbrev pub IsChildCell : {E : Type 0} → Tree E → List ℕ → List ℕ → ℕ → Split → ℕ → ℕ → ℕ → ℕ → ℕ → Type 0
IsChildCell tree of numbers quarter split node byte bound other cell =
    ((child : ℕ) × (child < length tree.texts) × (node_text tree child ≡ node_text tree node ++ byte ∷ [])
    × (cell ≡ cell_of of numbers quarter split child))
    ⊎ ((cell ≡ other) × ((j : ℕ) → bound < j → j < length tree.texts → node_text tree j ≢ node_text tree node ++ byte ∷ []))

-- The cell of a class in a row.
abbrev pub cell_in : ℕ → List ℕ → ℕ → ℕ → ℕ
cell_in quarter cells row class = slice_index cells (row * quarter * 4 + class)

-- A row was made of another one, by the cells of the children of its node after a bound. The other rows stay.
pub record IsMadeOf {E : Type 0} (tree : Tree E) (nodes of numbers classes : List ℕ) (quarter : ℕ) (split : Split) (bound from to : ℕ) (old new : List ℕ) : Type 0 where
  pub cells : (byte : ℕ) → byte < 256
      → IsChildCell tree of numbers quarter split (slice_index nodes to) byte bound
      (cell_in quarter old from (slice_index classes byte)) (cell_in quarter new to (slice_index classes byte))
  pub others : (row class : ℕ) → row ≢ to → class < quarter * 4 → cell_in quarter new row class ≡ cell_in quarter old row class
