-- Trails of nodes, as a trie grows along them.
use Rattle.std.proofs.Common.{◌≡◌, ℕ, ◌+◌, ◌<◌, ◌≤◌, List, [], ◌∷◌, ◌++◌, length, take, get_or, sym, ap, ◌∙◌, arith, inl, inr, refl}
use Rattle.std.proofs.lemmas.Bool.{cases_lt}
use Rattle.std.proofs.lemmas.List.{length-append, length-take, get_or_append_left, get_or_push, get_or-take, take-append-le, take_all}
use Rattle.std.proofs.lemmas.Grind.{common_steps}
use Rattle.hyphenation_trie.specs.Trie.{Tree, node_text, KeepsNodes}
use Rattle.hyphenation_trie.specs.Private.Trie.{Grows}
use Rattle.hyphenation_trie.proofs.TrieNodes.{keeps-grows}

-- The first numbers are the nodes of a text's beginnings, from one byte to a number of them.
abbrev pub AreAlong : {E : Type 0} → Tree E → List ℕ → List ℕ → Type 0
AreAlong t nodes key =
    (k : ℕ) → k < length key → (get_or nodes k 0 < length t.texts) × (node_text t (get_or nodes k 0) ≡ take (k + 1) key)

-- Another trie keeps the nodes.
pub along_kept : {E : Type 0} (old new : Tree E) (nodes key : List ℕ) → KeepsNodes old new → AreAlong old nodes key → AreAlong new nodes key
along_kept old new nodes key keeps along k lt =
    let w = along k lt in
    let v = keeps _ w.0 in
    (v.0, v.1 ∙ w.1)

-- The front of a trail.
pub along_front : {E : Type 0} (t : Tree E) (nodes key : List ℕ) (n : ℕ) → n ≤ length key → AreAlong t nodes key → AreAlong t (take n nodes) (take n key)
along_front t nodes key n le along k lt =
    let less : k < n = omega (arith, lt, length-take n key) in
    let w = along k (omega arith) in
    let same : get_or (take n nodes) k 0 ≡ get_or nodes k 0 = get_or-take n nodes k 0 less in
    let text : take (k + 1) key ≡ take (k + 1) (take n key) = grind (arith, common_steps) in
    (omega (arith, same, w.0), ap (node_text t) same ∙ w.1 ∙ text)

-- One more node.
pub along_more : {E : Type 0} (t : Tree E) (nodes key : List ℕ) (node byte : ℕ) → length nodes ≡ length key → AreAlong t nodes key
    → node < length t.texts → node_text t node ≡ key ++ byte ∷ [] → AreAlong t (nodes ++ node ∷ []) (key ++ byte ∷ [])
along_more t nodes key node byte len along inside is k lt = elim (cases_lt k (length key)) [
  | inl old ↦
      let w = along k old in
      let same : get_or (nodes ++ node ∷ []) k 0 ≡ get_or nodes k 0 = get_or_append_left nodes (node ∷ []) 0 k (omega (arith, len, old)) in
      let text : take (k + 1) (key ++ byte ∷ []) ≡ take (k + 1) key = take-append-le (k + 1) key (byte ∷ []) (omega (arith, old)) in
      (omega (arith, same, w.0), ap (node_text t) same ∙ w.1 ∙ sym text)
  | inr new ↦
      let last : k ≡ length key = omega (arith, lt, new, length-append key (byte ∷ [])) in
      let same : get_or (nodes ++ node ∷ []) k 0 ≡ node = get_or_push nodes node 0 k (len ∙ sym last) in
      let all : take (k + 1) (key ++ byte ∷ []) ≡ key ++ byte ∷ [] = take_all (k + 1) (key ++ byte ∷ []) (omega (arith, last, length-append key (byte ∷ []))) in
      (omega (arith, same, inside), ap (node_text t) same ∙ is ∙ sym all)
]

pub trail_more : {E : Type 0} (old new : Tree E) (grown : List ℕ) (nodes key : List ℕ) (node byte : ℕ) → Grows old new grown → length nodes ≡ length key → AreAlong old nodes key
    → node < length new.texts → node_text new node ≡ key ++ byte ∷ [] → AreAlong new (nodes ++ node ∷ []) (key ++ byte ∷ [])
trail_more old new grown nodes key node byte grows len along inside is =
    let keeps : KeepsNodes old new = keeps-grows old old new grown (λ i li. (li, refl)) grows in
    along_more new nodes key node byte len (along_kept old new nodes key keeps along) inside is
