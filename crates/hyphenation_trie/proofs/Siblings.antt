-- The children of a node, from the last one to the first.
use Rattle.std.proofs.Common.{◌≡◌, ◌≢◌, ℕ, ◌<◌, ◌≤◌, ◌++◌, [], ◌∷◌, List, length, map, get_or, slice_index, Option, None, sym, ap, ◌∙◌, arith, inl, inr}
use Rattle.std.proofs.lemmas.Bool.{cases_eq}
use Rattle.std.proofs.lemmas.List.{get_or-map}
use Rattle.hyphenation_trie.specs.Private.Chains.{IsLastBelow}
use Rattle.hyphenation_trie.specs.Private.Growing.{IsGrowing, IsLastChild}
use Rattle.hyphenation_trie.specs.Private.Links.{parent_of}
use Rattle.hyphenation_trie.specs.Private.Trie.{texts_of, tree_of}
use Rattle.hyphenation_trie.specs.declared.state.Span.{Span}
use Rattle.hyphenation_trie.proofs.TrieNodes.{length-texts_of, last_same, not_empty, root_text}

-- a number that is not 0 is above it
pub above_zero : (k : ℕ) → k ≢ 0 → 0 < k
above_zero k apart = omega arith

module _ (froms : List (Option (ℕ × ℕ))) (lasts befores : List ℕ) (held : IsGrowing froms lasts befores) where
  abbrev text : ℕ → List ℕ
  text j = get_or (texts_of froms) j []

  -- a child is not the root, and its parent is in the list of parents
  pub parent_is : (j node byte : ℕ) → j < length (texts_of froms) → node < length (texts_of froms) → text j ≡ text node ++ byte ∷ [] → (0 < j) × (slice_index (map parent_of froms) j ≡ node)
  parent_is j node byte lj ln e = elim (cases_eq j 0) [
    | inl first ↦ absurd (not_empty (text node) byte (sym (root_text (texts_of froms) held.root).0 ∙ ap text (sym first) ∙ e))
    | inr later ↦
        let h = held.from j (omega arith) lj in
        let same = held.apart h.0.0 node (omega (arith, h.2)) ln (last_same (text h.0.0) (text node) h.0.1 byte (sym h.3 ∙ e)).0 in
        (omega arith, get_or-map parent_of froms j None 0 (omega (arith, length-texts_of froms)) ∙ ap parent_of h.1 ∙ same)
  ]

  -- the last node below a bound that has this parent
  pub last_is : {E : Type 0} (spans : List (Option Span)) (es : List E) (node bound child : ℕ) → node < length (texts_of froms) → bound ≤ length (texts_of froms) → IsLastBelow (map parent_of froms) node bound child → IsLastChild (tree_of froms spans es) node bound child
  last_is spans es node bound child ln le last = record {
    within = λ pos.
        let w = last.within pos in
        let h = held.from child pos (omega (arith, w.0)) in
        let same : h.0.0 ≡ node = sym (get_or-map parent_of froms child None 0 (omega (arith, w.0, length-texts_of froms)) ∙ ap parent_of h.1) ∙ w.1 in
        (w.0, h.0.1, h.3 ∙ ap (λ (x : ℕ). text x ++ h.0.1 ∷ []) same);
    none = λ j byte after below e. last.none j after below (parent_is j node byte (omega arith) ln e).1;
  }
