-- Steps by rows of cells: a row for each node with children, and a number for each node.
use Rattle.std.specs.Prelude.{◌≡◌, ℕ, ◌+◌, ◌*◌, ◌<◌, ◌≤◌, List, [], ◌∷◌, ◌++◌, length, slice_index}
use Rattle.hyphenation_trie.specs.Cells.{IsSplit, number_in, place_in}
use Rattle.hyphenation_trie.specs.Links.{EndsWith, IsLongest}
use Rattle.hyphenation_trie.specs.Trie.{Tree, node_text}
use Rattle.hyphenation_trie.specs.declared.table.split.Split.{Split}
use Rattle.hyphenation_trie.specs.declared.table.steps.Steps.{Steps}

-- The cell of a byte in the row that begins there, in units of four cells.
abbrev pub cell_at : Steps → ℕ → ℕ → ℕ
cell_at steps start byte = slice_index steps.cells.items (start * 4 + slice_index steps.classes byte)

-- The node has a child.
abbrev pub HasChild : {E : Type 0} → Tree E → ℕ → Type 0
HasChild tree node =
    (child : ℕ) × (byte : ℕ) × (child < length tree.texts) × (node_text tree child ≡ node_text tree node ++ byte ∷ [])

-- Among the nodes with children whose texts end this text, the node is the one with the longest. It may also be the text's
-- own node or the root.
pub record IsLongestInner {E : Type 0} (tree : Tree E) (text : List ℕ) (node : ℕ) : Type 0 where
  pub within : node < length tree.texts
  pub ends : EndsWith text (node_text tree node)
  pub most : (k : ℕ) → k < length tree.texts → HasChild tree k → EndsWith text (node_text tree k)
      → length (node_text tree k) ≤ length (node_text tree node)

-- A cell for this text. It leads to the row of the longest node with children that ends the text, and holds the number of the
-- longest node that does.
pub record IsCellTo {E : Type 0} (tree : Tree E) (numbers rows : List ℕ) (quarter : ℕ) (split : Split) (text : List ℕ) (cell : ℕ) : Type 0 where
  pub row : ℕ
  pub within : row < length rows
  pub next : place_in split cell ≡ row * quarter
  pub inner : IsLongestInner tree text (slice_index rows row)
  pub node : ℕ
  pub longest : IsLongest tree.texts text node
  pub number : number_in split cell ≡ slice_index numbers node

-- The cells are those of the rows of these nodes. The first is that of the root.
pub record AreRows {E : Type 0} (tree : Tree E) (numbers classes : List ℕ) (quarter : ℕ) (split : Split) (cells rows : List ℕ) : Type 0 where
  pub has_root : 0 < length rows
  pub root : slice_index rows 0 ≡ 0
  pub room : length rows * quarter * 4 ≤ length cells
  pub each : (row byte : ℕ) → row < length rows → byte < 256
      → IsCellTo tree numbers rows quarter split (node_text tree (slice_index rows row) ++ byte ∷ [])
      (slice_index cells (row * quarter * 4 + slice_index classes byte))

-- The table has a row for each of these nodes, and right steps from each. The width of a row is four times this number of
-- cells.
pub record AreStepsBy {E : Type 0} (tree : Tree E) (numbers rows : List ℕ) (quarter : ℕ) (steps : Steps) : Type 0 where
  pub classes : length steps.classes ≡ 256
  pub below : (b : ℕ) → b < 256 → slice_index steps.classes b < quarter * 4
  pub split : IsSplit steps.split
  pub cells : AreRows tree numbers steps.classes quarter steps.split steps.cells.items rows

-- The table is one of this trie, with these numbers of its nodes.
abbrev pub AreSteps : {E : Type 0} → Tree E → List ℕ → Steps → Type 0
AreSteps tree numbers steps = (rows : List ℕ) × (quarter : ℕ) × AreStepsBy tree numbers rows quarter steps

-- The row that begins there belongs to this text: it is that of the longest node with children that ends the text.
pub record StandsFor {E : Type 0} (tree : Tree E) (numbers : List ℕ) (steps : Steps) (start : ℕ) (text : List ℕ) : Type 0 where
  pub rows : List ℕ
  pub quarter : ℕ
  pub are_steps : AreStepsBy tree numbers rows quarter steps
  pub row : ℕ
  pub within : row < length rows
  pub start_is : start ≡ row * quarter
  pub inner : IsLongestInner tree text (slice_index rows row)

-- A step to this text led to the row that belongs to it, and to the number of the longest node that ends it.
pub record IsStepOf {E : Type 0} (tree : Tree E) (numbers : List ℕ) (steps : Steps) (text : List ℕ) (next number : ℕ) : Type 0 where
  pub stands : StandsFor tree numbers steps next text
  pub node : ℕ
  pub longest : IsLongest tree.texts text node
  pub number_is : number ≡ slice_index numbers node

-- A step by a byte, from each text to which the row belongs, led to the right row and number.
abbrev pub StepsBy : {E : Type 0} → Tree E → Steps → ℕ → ℕ → ℕ → ℕ → Type 0
StepsBy tree steps start byte next number =
    (numbers text : List ℕ) → StandsFor tree numbers steps start text → IsStepOf tree numbers steps (text ++ byte ∷ []) next number
