-- Laws of tries, and of the links between their nodes.
use Rattle.std.specs.Prelude.{◌≡◌, ℕ, ◌<◌, List, [], ◌∷◌, ◌++◌, length, IsSome}
use Rattle.hyphenation_trie.specs.Trie.{Tree, node_text, entries_of_key, IsTrie}
use Rattle.hyphenation_breaks.specs.Dictionary.{Patterns}
use Rattle.hyphenation_trie.specs.Links.{IsLongest, IsReport}
use Rattle.hyphenation_trie.specs.Tables.{GoesOn, IsTableOf}
use Rattle.hyphenation_trie.specs.Vectors.{AreNear}
use Rattle.hyphenation_trie.specs.declared.table.Table.{Table}

-- Each key is the text of a node.
abbrev pub KeysHaveNodes : Type 0 → Type 0
KeysHaveNodes E =
    (tree : Tree E) (key : List ℕ) → IsSome (entries_of_key tree key)
    → (node : ℕ) × (node < length tree.texts) × (node_text tree node ≡ key)

-- The node with the longest text that ends a text leads to the one with the longest text that ends it with one more byte.
-- So no byte is read again.
abbrev pub LongestGoesOn : Type 0 → Type 0
LongestGoesOn E =
    (tree : Tree E) → IsTrie tree → (text : List ℕ) (byte node next : ℕ) → IsLongest tree.texts text node
    → IsLongest tree.texts (node_text tree node ++ byte ∷ []) next → IsLongest tree.texts (text ++ byte ∷ []) next

-- The longest key that ends a text ends also the longest text of a node that ends it.
abbrev pub LongestHasReport : Type 0 → Type 0
LongestHasReport E =
    (tree : Tree E) (text : List ℕ) (node report : ℕ) → IsLongest tree.texts text node
    → IsReport tree (node_text tree node) report → IsReport tree text report

-- The first row of a table goes on from the empty text, and no entry of its keys is far from its key's end.
abbrev pub TableBegins : Type 0 → Type 0
TableBegins C =
    (rank : C → ℕ → ℕ) (keys : Patterns C) (table : Table) → IsTableOf rank keys table → GoesOn rank keys table 0 [] × AreNear keys
