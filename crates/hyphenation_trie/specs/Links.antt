-- Links of a trie: from a node to one whose text ends the node's text.
-- Source: A. V. Aho and M. J. Corasick, Efficient String Matching: An Aid to Bibliographic Search (1975).
use Rattle.std.specs.Prelude.{◌≡◌, ℕ, ◌+◌, ◌-◌, ◌<◌, ◌≤◌, nat_eq, nat_le, Bool, false, ◌&&◌, ◌||◌, List, [], ◌∷◌, length, drop, slice_index_or, IsSome, is_some, None, count_by}
use Rattle.std.specs.Cmp.Lexicographic.{pointwise}
use Rattle.std.specs.List.{range_with_len}
use Rattle.hyphenation_trie.specs.Trie.{Tree, node_text, entries_of_key}

-- The first text ends with the second one.
abbrev pub EndsWith : List ℕ → List ℕ → Type 0
EndsWith t s = (length s ≤ length t) × (drop (length t - length s) t ≡ s)

-- Among the nodes whose texts end this text, the node is the one with the longest.
pub record IsLongest (texts : List (List ℕ)) (text : List ℕ) (node : ℕ) : Type 0 where
  pub within : node < length texts
  pub ends : EndsWith text (slice_index_or texts node [])
  pub most : (k : ℕ) → k < length texts → EndsWith text (slice_index_or texts k [])
      → length (slice_index_or texts k []) ≤ length (slice_index_or texts node [])

-- The node has the longest key that ends this text; it is the root if no key does.
pub record IsReport {E : Type 0} (tree : Tree E) (text : List ℕ) (node : ℕ) : Type 0 where
  pub within : node < length tree.texts
  pub ends : EndsWith text (node_text tree node)
  pub key : 0 < node → IsSome (entries_of_key tree (node_text tree node))
  pub none : (k : ℕ) → k < length text - length (node_text tree node) → entries_of_key tree (drop k text) ≡ None

-- The number of keys among the n longest ends of a text.
abbrev pub keys_in : {E : Type 0} → Tree E → List ℕ → ℕ → ℕ
keys_in tree text n = count_by (λ d. is_some (entries_of_key tree (drop d text))) (range_with_len 0 n)

-- The text is the text of a node.
abbrev pub is_node_text : List (List ℕ) → List ℕ → Bool
is_node_text [] text = false
is_node_text (t ∷ ts) text = pointwise nat_eq t text || is_node_text ts text

-- The number of ends of a text that are texts of nodes and, with one more byte, at least as long as another text. The ends
-- of a text are the text itself, the text without its first byte, and so on to the empty text.
abbrev pub node_ends : List (List ℕ) → List ℕ → List ℕ → ℕ
node_ends texts text next =
    count_by (λ d. is_node_text texts (drop d text) && nat_le (length next) (length text - d + 1))
    (range_with_len 0 (length text + 1))
