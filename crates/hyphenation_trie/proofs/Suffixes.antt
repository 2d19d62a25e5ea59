-- Ends of texts, and the longest end that is a text of a node.
use Rattle.std.proofs.Common.{◌≡◌, ◌≢◌, ℕ, suc, ◌+◌, ◌-◌, ◌<◌, ◌≤◌, List, [], ◌∷◌, ◌++◌, length, drop, get_or, sym, ap, subst, ◌∙◌, arith, ◌⊎◌, inl, inr}
use Rattle.std.proofs.lemmas.Bool.{cases_eq, cases_lt}
use Rattle.std.proofs.lemmas.List.{length-append, length-drop, drop-drop, drop-append-le, drop_all}
use Rattle.hyphenation_trie.specs.Trie.{Tree, node_text, IsTrie}
use Rattle.hyphenation_trie.specs.Links.{EndsWith, IsLongest}
use Rattle.hyphenation_trie.specs.Private.Links.{HasNoChild}
use Rattle.hyphenation_trie.proofs.TrieNodes.{last_same}

pub Ends-refl : (t : List ℕ) → EndsWith t t
Ends-refl t = let n : length t - length t ≡ 0 = omega arith in (omega arith, ap (λ (k : ℕ). drop k t) n)

pub Ends-nil : (t : List ℕ) → EndsWith t []
Ends-nil t = (omega arith, drop_all (length t - 0) t (omega arith))

-- the shorter of two ends of one text ends the longer one
pub Ends-both : (t u s : List ℕ) → EndsWith t u → EndsWith t s → length s ≤ length u → EndsWith u s
Ends-both t u s eu es le =
    let n : (length t - length u) + (length u - length s) ≡ length t - length s = omega (arith, eu.0, es.0) in
    (le, ap (λ (x : List ℕ). drop (length u - length s) x) (sym eu.1) ∙ drop-drop (length u - length s) (length t - length u) t ∙ ap (λ (k : ℕ). drop k t) n ∙ es.1)

pub Ends-trans : (t u s : List ℕ) → EndsWith t u → EndsWith u s → EndsWith t s
Ends-trans t u s eu es =
    let n : (length t - length u) + (length u - length s) ≡ length t - length s = omega (arith, eu.0, es.0) in
    (omega (arith, eu.0, es.0), ap (λ (k : ℕ). drop k t) (sym n) ∙ sym (drop-drop (length u - length s) (length t - length u) t) ∙ ap (λ (x : List ℕ). drop (length u - length s) x) eu.1 ∙ es.1)

-- ends of the same length are equal
pub Ends-same : (t u s : List ℕ) → EndsWith t u → EndsWith t s → length s ≡ length u → s ≡ u
Ends-same t u s eu es e = sym es.1 ∙ ap (λ (n : ℕ). drop (length t - n) t) e ∙ eu.1

pub length-push : (t : List ℕ) (b : ℕ) → length (t ++ b ∷ []) ≡ length t + 1
length-push t b = length-append t (b ∷ [])

-- a byte more at both
pub Ends-push : (t s : List ℕ) (b : ℕ) → EndsWith t s → EndsWith (t ++ b ∷ []) (s ++ b ∷ [])
Ends-push t s b e =
    let n : length (t ++ b ∷ []) - length (s ++ b ∷ []) ≡ length t - length s = omega (arith, length-push t b, length-push s b) in (
      omega (arith, length-push t b, length-push s b, e.0),
      ap (λ (k : ℕ). drop k (t ++ b ∷ [])) n ∙ drop-append-le (length t - length s) t (b ∷ []) (omega arith) ∙ ap (λ (x : List ℕ). x ++ b ∷ []) e.1,
    )

-- a byte less at both
pub Ends-pop : (t s : List ℕ) (b c : ℕ) → EndsWith (t ++ b ∷ []) (s ++ c ∷ []) → EndsWith t s × (c ≡ b)
Ends-pop t s b c e =
    let le : length s ≤ length t = omega (arith, length-push t b, length-push s c, e.0) in
    let n : length (t ++ b ∷ []) - length (s ++ c ∷ []) ≡ length t - length s = omega (arith, length-push t b, length-push s c) in
    let whole : drop (length t - length s) t ++ b ∷ [] ≡ s ++ c ∷ [] = sym (drop-append-le (length t - length s) t (b ∷ []) (omega arith)) ∙ ap (λ (k : ℕ). drop k (t ++ b ∷ [])) (sym n) ∙ e.1 in
    let parts = last_same (drop (length t - length s) t) s b c whole in
    ((le, parts.0), sym parts.1)

-- a shorter end of a text ends what follows its first byte
pub Ends-rest : (t s : List ℕ) → EndsWith t s → length s < length t → EndsWith (drop 1 t) s
Ends-rest [] s e lt = absurd (omega arith)
Ends-rest (x ∷ t) s e lt =
    let n : suc (length t) - length s ≡ suc (length t - length s) = omega arith in
    (omega arith, sym (ap (λ (k : ℕ). drop k (x ∷ t)) n) ∙ e.1)

pub Ends-whole : (t s : List ℕ) → EndsWith (drop 1 t) s → EndsWith t s
Ends-whole [] s e = e
Ends-whole (x ∷ t) s e =
    let n : suc (length t) - length s ≡ suc (length t - length s) = omega (arith, e.0) in
    (omega (arith, e.0), ap (λ (k : ℕ). drop k (x ∷ t)) n ∙ e.1)

-- a node whose text ends this text and one byte more: the root, or below a node whose text ends this text
pub parent : (texts : List (List ℕ)) → (root : get_or texts 0 [] ≡ []) → ((j : ℕ) → 0 < j → j < length texts → (i : ℕ) × (b : ℕ) × (i < length texts) × (get_or texts j [] ≡ get_or texts i [] ++ b ∷ []))
    → (t : List ℕ) (b k : ℕ) → k < length texts → EndsWith (t ++ b ∷ []) (get_or texts k [])
    → (length (get_or texts k []) ≡ 0) ⊎ ((i : ℕ) × (i < length texts) × EndsWith t (get_or texts i []) × (get_or texts k [] ≡ get_or texts i [] ++ b ∷ []) × (length (get_or texts k []) ≡ length (get_or texts i []) + 1))
parent texts root closed t b k lk e = elim (cases_eq k 0) [
  | inl k0 ↦ inl (ap (λ (x : ℕ). length (get_or texts x [])) k0 ∙ ap length root)
  | inr k1 ↦
      let up = closed k (omega arith) lk in
      let cut = Ends-pop t (get_or texts up.0 []) b up.1 (subst (λ (x : List ℕ). EndsWith (t ++ b ∷ []) x) up.3 e) in
      let is : get_or texts k [] ≡ get_or texts up.0 [] ++ b ∷ [] = up.3 ∙ ap (λ (c : ℕ). get_or texts up.0 [] ++ c ∷ []) cut.1 in
      inr (up.0, up.2, cut.0, is, ap length is ∙ length-push (get_or texts up.0 []) b)
]

-- the longest that ends what was read, one byte on
pub longest_more : {E : Type 0} (tree : Tree E) → IsTrie tree → (t : List ℕ) (b node next : ℕ)
    → IsLongest tree.texts t node → IsLongest tree.texts (node_text tree node ++ b ∷ []) next → IsLongest tree.texts (t ++ b ∷ []) next
longest_more tree trie t b node next now then = record {
  within = then.within;
  ends = Ends-trans (t ++ b ∷ []) (node_text tree node ++ b ∷ []) (node_text tree next) (Ends-push t (node_text tree node) b now.ends) then.ends;
  most = λ k lk e. elim (parent tree.texts trie.root trie.closed t b k lk e) [
    | inl nil ↦ omega arith
    | inr h ↦
        let shorter : length (node_text tree h.0) ≤ length (node_text tree node) = now.most h.0 h.1 h.2 in
        let inner = Ends-push (node_text tree node) (node_text tree h.0) b (Ends-both t (node_text tree node) (node_text tree h.0) now.ends h.2 shorter) in
        then.most k lk (subst (λ (x : List ℕ). EndsWith (node_text tree node ++ b ∷ []) x) (sym h.3) inner)
  ];
}

-- The state of the search for a node after a byte. The text of `at` ends the first text, and no node with a text of
-- more than one more byte is possible.
pub record IsSought {E : Type 0} (tree : Tree E) (t : List ℕ) (b at : ℕ) : Type 0 where
  pub within : at < length tree.texts
  pub ends : EndsWith t (node_text tree at)
  pub most : (k : ℕ) → k < length tree.texts → EndsWith (t ++ b ∷ []) (node_text tree k) → length (node_text tree k) ≤ length (node_text tree at) + 1

-- a child is the longest
pub sought_here : {E : Type 0} (tree : Tree E) (t : List ℕ) (b at child : ℕ) → IsSought tree t b at → child < length tree.texts → node_text tree child ≡ node_text tree at ++ b ∷ [] → IsLongest tree.texts (t ++ b ∷ []) child
sought_here tree t b at child s lt is = record {
  within = lt;
  ends = subst (λ (x : List ℕ). EndsWith (t ++ b ∷ []) x) (sym is) (Ends-push t (node_text tree at) b s.ends);
  most = λ k lk e. omega (arith, s.most k lk e, ap length is, length-push (node_text tree at) b);
}

-- without a child the longest is no longer than the node's text
shorter : {E : Type 0} (tree : Tree E) → IsTrie tree → (t : List ℕ) (b at : ℕ) → IsSought tree t b at → ((j : ℕ) → j < length tree.texts → node_text tree j ≢ node_text tree at ++ b ∷ [])
    → (k : ℕ) → k < length tree.texts → EndsWith (t ++ b ∷ []) (node_text tree k) → length (node_text tree k) ≤ length (node_text tree at)
shorter tree trie t b at s none k lk e = elim (cases_lt (length (node_text tree at)) (length (node_text tree k))) [
  | inr le ↦ omega arith
  | inl lt ↦
      let up = s.most k lk e in
      absurd (none k lk (Ends-same (t ++ b ∷ []) (node_text tree at ++ b ∷ []) (node_text tree k) (Ends-push t (node_text tree at) b s.ends) e (omega (arith, length-push (node_text tree at) b))))
]

pub sought_up : {E : Type 0} (tree : Tree E) → IsTrie tree → (t : List ℕ) (b at up : ℕ) → IsSought tree t b at → 0 < length (node_text tree at) → IsLongest tree.texts (drop 1 (node_text tree at)) up
    → ((j : ℕ) → j < length tree.texts → node_text tree j ≢ node_text tree at ++ b ∷ []) → IsSought tree t b up × (length (node_text tree up) < length (node_text tree at))
sought_up tree trie t b at up s pos link none =
    let less : length (node_text tree up) < length (node_text tree at) = omega (arith, link.ends.0, length-drop 1 (node_text tree at)) in
    let up_ends : EndsWith (node_text tree at) (node_text tree up) = Ends-whole (node_text tree at) (node_text tree up) link.ends in (
      record {
        within = link.within;
        ends = Ends-trans t (node_text tree at) (node_text tree up) s.ends up_ends;
        most = λ k lk e. elim (parent tree.texts trie.root trie.closed t b k lk e) [
          | inl nil ↦ omega arith
          | inr h ↦
              let low : length (node_text tree k) ≤ length (node_text tree at) = shorter tree trie t b at s none k lk e in
              let inner : EndsWith (node_text tree at) (node_text tree h.0) = Ends-both t (node_text tree at) (node_text tree h.0) s.ends h.2 (omega arith) in
              let link_most = link.most h.0 h.1 (Ends-rest (node_text tree at) (node_text tree h.0) inner (omega arith)) in
              omega arith
        ];
      },
      less,
    )

-- the root itself is the longest if it has no child
pub sought_root : {E : Type 0} (tree : Tree E) → IsTrie tree → (t : List ℕ) (b : ℕ) → IsSought tree t b 0 → HasNoChild tree 0 b → IsLongest tree.texts (t ++ b ∷ []) 0
sought_root tree trie t b s none = record {
  within = s.within;
  ends = subst (λ (x : List ℕ). EndsWith (t ++ b ∷ []) x) (sym trie.root) (Ends-nil (t ++ b ∷ []));
  most = shorter tree trie t b 0 s none;
}

-- a look-up finds the longest
pub sought_next : {E : Type 0} (tree : Tree E) → IsTrie tree → (t : List ℕ) (b at next : ℕ) → IsSought tree t b at → next < length tree.texts → (0 < at + next → node_text tree next ≡ node_text tree at ++ b ∷ [])
    → (at + next ≡ 0 → HasNoChild tree at b) → IsLongest tree.texts (t ++ b ∷ []) next
sought_next tree trie t b at next s lt child none = elim (cases_eq (at + next) 0) [
  | inl is ↦
      let at_root : at ≡ 0 = omega arith in
      let next_root : next ≡ 0 = omega arith in
      subst (λ (x : ℕ). IsLongest tree.texts (t ++ b ∷ []) x) (sym next_root)
      (sought_root tree trie t b (subst (λ (x : ℕ). IsSought tree t b x) at_root s) (subst (λ (x : ℕ). HasNoChild tree x b) at_root (none is)))
  | inr apart ↦ sought_here tree t b at next s lt (child (omega arith))
]

-- only the root has an empty text
pub depth_pos : {E : Type 0} (tree : Tree E) → IsTrie tree → (j : ℕ) → 0 < j → j < length tree.texts → 0 < length (node_text tree j)
depth_pos tree trie j pos lj =
    let up = trie.closed j pos lj in
    omega (arith, ap length up.3, length-push (node_text tree up.0) up.1)
