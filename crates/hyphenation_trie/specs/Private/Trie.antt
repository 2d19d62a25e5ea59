-- How a trie grows, and how its nodes and entries are held.
use Rattle.std.specs.Prelude.{◌≡◌, ℕ, ◌+◌, ◌<◌, List, [], ◌∷◌, ◌++◌, length, map, fold, Option, Some, None, slice_index_or, ◌≤◌, ◌⊎◌, slice_set}
use Rattle.std.specs.Option.{option_map}
use Rattle.std.specs.List.{slice_range}
use Rattle.hyphenation_trie.specs.declared.state.Span.{Span}
use Rattle.hyphenation_trie.specs.Trie.{Tree, node_text}

-- The trie with one more node, whose text is not a key.
abbrev pub with_child : {E : Type 0} → Tree E → ℕ → ℕ → Tree E
with_child t node byte =
    record { texts = t.texts ++ (node_text t node ++ byte ∷ []) ∷ []; entries = t.entries ++ None ∷ [] }

-- The new trie has at most one more node, with that text, which is not a key.
abbrev pub Grows : {E : Type 0} → Tree E → Tree E → List ℕ → Type 0
Grows old new text = (new ≡ old) ⊎ (new ≡ record { texts = old.texts ++ text ∷ []; entries = old.entries ++ None ∷ [] })

-- The trie with these entries at a node.
abbrev pub with_entries : {E : Type 0} → Tree E → ℕ → List E → Tree E
with_entries t node es = record t { entries = slice_set t.entries node (Some es) }

-- The text of a node, given its parent and byte; empty for the root, which has neither.
abbrev pub text_after : List (List ℕ) → Option (ℕ × ℕ) → List ℕ
text_after texts None = []
text_after texts (Some from) = slice_index_or texts from.0 [] ++ from.1 ∷ []

-- The texts of nodes with that of one more node.
abbrev pub with_node_text : List (List ℕ) → Option (ℕ × ℕ) → List (List ℕ)
with_node_text texts from = texts ++ text_after texts from ∷ []

-- The texts of nodes, each given by its parent, which comes before it, and its byte.
abbrev pub texts_of : List (Option (ℕ × ℕ)) → List (List ℕ)
texts_of froms = fold with_node_text [] froms

-- The entries of a span of the entries of all nodes.
abbrev pub entries_there : {E : Type 0} → List E → Option Span → Option (List E)
entries_there es span = option_map (λ span. slice_range es span.start (span.start + span.count)) span

-- The trie of nodes that are held as parents and bytes, spans of entries, and the entries of all nodes.
abbrev pub tree_of : {E : Type 0} → List (Option (ℕ × ℕ)) → List (Option Span) → List E → Tree E
tree_of froms spans es = record { texts = texts_of froms; entries = map (entries_there es) spans }

-- A span of entries ends within a bound.
abbrev pub IsWithin : ℕ → Option Span → Type 0
IsWithin bound None = Unit {0}
IsWithin bound (Some span) = span.start + span.count ≤ bound

-- Each span of entries ends within a bound.
abbrev pub AreWithin : ℕ → List (Option Span) → Type 0
AreWithin bound [] = Unit {0}
AreWithin bound (span ∷ spans) = IsWithin bound span × AreWithin bound spans

-- Each node but the root has a parent, which comes before it, and a byte.
abbrev pub HasFroms : List (List ℕ) → List (Option (ℕ × ℕ)) → Type 0
HasFroms texts froms =
    (j : ℕ) → 0 < j → j < length texts
    → (from : ℕ × ℕ) × (slice_index_or froms j None ≡ Some from) × (from.0 < j)
    × (slice_index_or texts j [] ≡ slice_index_or texts from.0 [] ++ from.1 ∷ [])

-- No two texts are equal.
abbrev pub AreApart : List (List ℕ) → Type 0
AreApart texts =
    (i j : ℕ) → i < length texts → j < length texts → slice_index_or texts i [] ≡ slice_index_or texts j [] → i ≡ j
