-- A growing trie: how its nodes are held, and how a child is found.
use Rattle.std.specs.Prelude.{◌≡◌, ◌≢◌, ℕ, ◌<◌, ◌≤◌, List, [], ◌∷◌, ◌++◌, length, map, Option, Some, None, slice_get, slice_index, slice_index_or}
use Rattle.hyphenation_trie.specs.Trie.{Tree, node_text}
use Rattle.hyphenation_trie.specs.Private.Chains.{IsChained}
use Rattle.hyphenation_trie.specs.Private.Links.{parent_of}
use Rattle.hyphenation_trie.specs.Private.Trie.{texts_of, AreApart, HasFroms}
use Rattle.hyphenation_trie.specs.declared.children.Children.{Children}

-- The first node is the root, and each other node has an earlier parent. No two nodes have the same text. The children of
-- each node are chained.
pub record IsGrowing (froms : List (Option (ℕ × ℕ))) (lasts befores : List ℕ) : Type 0 where
  pub root : slice_get (texts_of froms) 0 ≡ Some []
  pub apart : AreApart (texts_of froms)
  pub from : HasFroms (texts_of froms) froms
  pub nodes : length lasts ≡ length froms
  pub chained : IsChained (map parent_of froms) lasts befores

-- The children of each node from a first one on come in the order of their bytes.
abbrev pub IsOrderedFrom : List ℕ → List ℕ → ℕ → Type 0
IsOrderedFrom parents bytes first =
    (j k : ℕ) → 0 < j → j < k → k < length parents → first ≤ slice_index parents k
    → slice_index parents j ≡ slice_index parents k → slice_index bytes j ≤ slice_index bytes k

-- A child of a node at a byte is sought along a chain. The member at hand, if any, is a child of the node, and no later
-- node is the child sought.
pub record IsSought (froms : List (Option (ℕ × ℕ))) (node byte child : ℕ) : Type 0 where
  pub here : 0 < child → (child < length froms) × (slice_index (map parent_of froms) child ≡ node)
  pub above : (k : ℕ) → child < k → k < length froms → slice_index_or froms k None ≢ Some (node, byte)

-- The byte of a node's last child; 0 if it has no child.
abbrev pub last_byte : Children → ℕ → ℕ
last_byte children node = slice_index children.bytes.items (slice_index children.last.items node)

-- The last child of a node below a bound; 0 if there is none.
pub record IsLastChild {E : Type 0} (tree : Tree E) (node bound child : ℕ) : Type 0 where
  pub within : 0 < child → (child < bound) × (byte : ℕ) × (node_text tree child ≡ node_text tree node ++ byte ∷ [])
  pub none : (j byte : ℕ) → child < j → j < bound → node_text tree j ≢ node_text tree node ++ byte ∷ []

-- The sibling before a child: among the children of its parent that come before it, the last one; 0 if there is none.
abbrev pub IsChildBefore : {E : Type 0} → Tree E → ℕ → ℕ → Type 0
IsChildBefore tree child before =
    (node byte : ℕ) → node < length tree.texts → node_text tree child ≡ node_text tree node ++ byte ∷ []
    → IsLastChild tree node child before
