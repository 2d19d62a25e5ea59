-- Tries, as the texts of their nodes.
use Rattle.std.specs.Prelude.{◌≡◌, ℕ, ◌<◌, nat_eq, if◌then◌else◌, List, [], ◌∷◌, ◌++◌, length, Option, None, Some, slice_index_or, unwrap_or, IsSome, take, ◌⊎◌}
use Rattle.std.specs.Cmp.Lexicographic.{pointwise}

-- A trie as its nodes: the text of each, and its entries if the text is a key. A node is its index in both lists.
pub record Tree (E : Type 0) : Type 0 where
  pub texts : List (List ℕ)
  pub entries : List (Option (List E))

-- The text of a node.
abbrev pub node_text : {E : Type 0} → Tree E → ℕ → List ℕ
node_text t node = slice_index_or t.texts node []

-- The entries of the first node with this text.
abbrev pub entries_at : {E : Type 0} → List (List ℕ) → List (Option (List E)) → List ℕ → Option (List E)
entries_at [] es q = None
entries_at (t ∷ ts) [] q = None
entries_at (t ∷ ts) (e ∷ es) q = if pointwise nat_eq t q then e else entries_at ts es q

-- The entries of a text, if it is a key.
abbrev pub entries_of_key : {E : Type 0} → Tree E → List ℕ → Option (List E)
entries_of_key t q = entries_at t.texts t.entries q

-- The entries of a node; none if its text is not a key.
abbrev pub entries_of_node : {E : Type 0} → Tree E → ℕ → List E
entries_of_node t node = unwrap_or (slice_index_or t.entries node None) []

-- The invariant of a trie: its first node is the root, with the empty text. No two nodes have the same text. Each node but
-- the root is the child of another: its text is that one's with one more byte.
pub record IsTrie {E : Type 0} (t : Tree E) : Type 0 where
  pub lengths : length t.entries ≡ length t.texts
  pub has_root : 0 < length t.texts
  pub root : node_text t 0 ≡ []
  pub distinct : (i j : ℕ) → i < length t.texts → j < length t.texts → node_text t i ≡ node_text t j → i ≡ j
  pub closed : (j : ℕ) → 0 < j → j < length t.texts
      → (i : ℕ) × (b : ℕ) × (i < length t.texts) × (node_text t j ≡ node_text t i ++ b ∷ [])

-- The text begins a key.
abbrev pub BeginsKey : {E : Type 0} → Tree E → List ℕ → Type 0
BeginsKey t text = (q : List ℕ) × IsSome (entries_of_key t q) × (text ≡ take (length text) q)

-- The text of each node but the root begins a key. A trie without keys has the root, too.
abbrev pub EachBeginsKey : {E : Type 0} → Tree E → Type 0
EachBeginsKey t = (j : ℕ) → 0 < j → j < length t.texts → BeginsKey t (node_text t j)

-- ---- Growing.

-- The new trie has these entries at the key, and the entries of the old one at other keys.
abbrev pub SetsKey : {E : Type 0} → Tree E → Tree E → List ℕ → List E → Type 0
SetsKey old new key entries =
    (text : List ℕ)
    → entries_of_key new text ≡ (if pointwise nat_eq key text then Some entries else entries_of_key old text)

-- The new trie has the keys of the old one, with the same entries.
abbrev pub KeepsKeys : {E : Type 0} → Tree E → Tree E → Type 0
KeepsKeys old new = (text : List ℕ) → entries_of_key new text ≡ entries_of_key old text

-- Each node is an old one, or its text begins this key.
abbrev pub AddsFront : {E : Type 0} → Tree E → Tree E → List ℕ → Type 0
AddsFront old new key =
    (j : ℕ) → j < length new.texts
    → ((j < length old.texts) × (node_text new j ≡ node_text old j))
    ⊎ (node_text new j ≡ take (length (node_text new j)) key)

-- Each node keeps its number and its text.
abbrev pub KeepsNodes : {E : Type 0} → Tree E → Tree E → Type 0
KeepsNodes old new = (i : ℕ) → i < length old.texts → (i < length new.texts) × (node_text new i ≡ node_text old i)
