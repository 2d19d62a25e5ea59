-- The keys of a trie, each with its entries.
use Rattle.std.specs.Prelude.{ℕ, List, [], ◌∷◌, map, Option, Some, None}
use Rattle.std.specs.Borrow.{Bor}
use Rattle.std.specs.declared.vec.Vec.{Vec}

-- The texts that are keys, each with its entries, in the order of their nodes.
abbrev pub pairs_of : {E : Type 0} → List (List ℕ) → List (Option (List E)) → List (List ℕ × List E)
pairs_of [] es = []
pairs_of (t ∷ ts) [] = []
pairs_of (t ∷ ts) (None ∷ es) = pairs_of ts es
pairs_of (t ∷ ts) (Some x ∷ es) = (t, x) ∷ pairs_of ts es

-- Owned keys with borrowed entries, as texts with lists.
abbrev pub key_views : {E Y : Type 0} → List (Vec ℕ Y × Bor (List E)) → List (List ℕ × List E)
key_views keys = map (λ key. (key.0.items, key.1.now)) keys
