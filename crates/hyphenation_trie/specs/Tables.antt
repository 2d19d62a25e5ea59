-- Tables of steps: a row of cells for each text that begins longer keys, and a cell for each class of bytes.
use Rattle.std.specs.Prelude.{◌≡◌, ℕ, ◌-◌, ◌*◌, ◌<◌, ◌≤◌, List, [], ◌∷◌, ◌++◌, length, drop, slice_index, slice_index_or, None}
use Rattle.hyphenation_breaks.specs.Dictionary.{Patterns}
use Rattle.hyphenation_trie.specs.Cells.{IsSplit, number_in, place_in}
use Rattle.hyphenation_trie.specs.Links.{EndsWith}
use Rattle.hyphenation_trie.specs.Steps.{cell_at}
use Rattle.hyphenation_trie.specs.Vectors.{AreNear, IsVector, keys_at_end}
use Rattle.hyphenation_trie.specs.declared.table.Table.{Table}

-- No key is longer than this text and begins with it.
abbrev pub OpensNoKey : {C : Type 0} → Patterns C → List ℕ → Type 0
OpensNoKey keys text = (byte : ℕ) (rest : List ℕ) → keys (text ++ byte ∷ rest) ≡ None

-- The tail ends the text, and no longer end of the text is the beginning of a longer key.
pub record IsTail {C : Type 0} (keys : Patterns C) (text tail : List ℕ) : Type 0 where
  pub ends : EndsWith text tail
  pub none : (d : ℕ) → d < length text - length tail → OpensNoKey keys (drop d text)

-- A step leads to the row of a tail of the text. It also leads to the vector of the text, with the number of keys that end it.
-- Rows begin at each quarter of their width in the order of their texts.
pub record IsStepTo {C : Type 0} (rank : C → ℕ → ℕ) (keys : Patterns C) (texts : List (List ℕ)) (quarter : ℕ) (table : Table) (text : List ℕ)
    (next number : ℕ) : Type 0 where
  pub row : ℕ
  pub within : row < length texts
  pub next_is : next ≡ row * quarter
  pub tail : IsTail keys text (slice_index_or texts row [])
  pub number_of : number < length table.vectors.items
  pub vector : IsVector rank keys text (slice_index_or table.vectors.items number [])
  pub counted : slice_index table.counts.items number ≡ keys_at_end keys text

-- The table has one row for each of the texts, and the steps from each are right. The width of a row is four times this number
-- of cells.
pub record IsTable {C : Type 0} (rank : C → ℕ → ℕ) (keys : Patterns C) (texts : List (List ℕ)) (quarter : ℕ) (table : Table) : Type 0 where
  pub near : AreNear keys
  pub classes : length table.steps.classes ≡ 256
  pub below : (b : ℕ) → b < 256 → slice_index table.steps.classes b < quarter * 4
  pub counts : length table.counts.items ≡ length table.vectors.items
  pub split : IsSplit table.steps.split
  pub has_root : 0 < length texts
  pub root : slice_index_or texts 0 [] ≡ []
  pub room : length texts * quarter * 4 ≤ length table.steps.cells.items
  pub steps : (row byte : ℕ) → row < length texts → byte < 256
      → IsStepTo rank keys texts quarter table (slice_index_or texts row [] ++ byte ∷ [])
      (place_in table.steps.split (cell_at table.steps (row * quarter) byte)) (number_in table.steps.split (cell_at table.steps (row * quarter) byte))

-- The table is one of these keys, with these ranks of their values.
abbrev pub IsTableOf : {C : Type 0} → (C → ℕ → ℕ) → Patterns C → Table → Type 0
IsTableOf rank keys table = (texts : List (List ℕ)) × (quarter : ℕ) × IsTable rank keys texts quarter table

-- The row goes on from this text: it is that of a tail of the text.
pub record GoesOn {C : Type 0} (rank : C → ℕ → ℕ) (keys : Patterns C) (table : Table) (start : ℕ) (text : List ℕ) : Type 0 where
  pub texts : List (List ℕ)
  pub quarter : ℕ
  pub is_table : IsTable rank keys texts quarter table
  pub row : ℕ
  pub within : row < length texts
  pub start_is : start ≡ row * quarter
  pub tail : IsTail keys text (slice_index_or texts row [])

-- A step to this text led to a row that goes on from it. It also led to its vector, with the number of keys that end it.
pub record IsRead {C : Type 0} (rank : C → ℕ → ℕ) (keys : Patterns C) (table : Table) (text : List ℕ) (next number : ℕ) : Type 0 where
  pub goes_on : GoesOn rank keys table next text
  pub vector : IsVector rank keys text (slice_index_or table.vectors.items number [])
  pub counted : slice_index table.counts.items number ≡ keys_at_end keys text

-- A step by a byte, from each text that the row goes on from, led to the right row and to the right vector.
abbrev pub ReadsOn : {C : Type 0} → (C → ℕ → ℕ) → Patterns C → Table → ℕ → ℕ → ℕ → ℕ → Type 0
ReadsOn rank keys table start byte next number =
    (text : List ℕ) → GoesOn rank keys table start text → IsRead rank keys table (text ++ byte ∷ []) next number
