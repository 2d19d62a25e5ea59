-- The nodes along a key.
use Rattle.std.specs.Prelude.{◌≡◌, ℕ, ◌+◌, ◌<◌, length, slice_index, take}
use Rattle.hyphenation_trie.specs.Trie.{Tree, node_text}
use Rattle.hyphenation_trie.specs.declared.trail.Trail.{Trail}

-- The trail has the nodes of the beginnings of its key, from one byte to the whole key.
pub record IsTrail {E : Type 0} (t : Tree E) (trail : Trail) : Type 0 where
  pub nodes : length trail.nodes.items ≡ length trail.key.items
  pub each : (k : ℕ) → k < length trail.key.items
      → (slice_index trail.nodes.items k < length t.texts)
      × (node_text t (slice_index trail.nodes.items k) ≡ take (k + 1) trail.key.items)
