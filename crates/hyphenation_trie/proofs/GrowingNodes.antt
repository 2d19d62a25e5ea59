-- Nodes as they are held while a trie grows, and the children of each along its chain.
use Rattle.std.proofs.Common.{◌≡◌, ◌≢◌, ℕ, ◌+◌, ◌<◌, ◌≤◌, List, [], ◌∷◌, ◌++◌, length, map, drop, get_or, set, slice_index, Option, Some, None, refl, sym, ap, subst, ◌∙◌, arith, inl, inr}
use Rattle.std.specs.Prelude.{slice_get}
use Rattle.std.proofs.lemmas.Bool.{cases_eq, cases_lt}
use Rattle.std.proofs.lemmas.List.{length-append, length-map, length-set, map_push, get_or-map, get_or_append_left, get_or_push}
use Rattle.hyphenation_trie.specs.Private.Chains.{IsLastBelow, IsChained}
use Rattle.hyphenation_trie.specs.Private.Growing.{IsGrowing, IsOrderedFrom, IsSought}
use Rattle.hyphenation_trie.specs.Private.Links.{parent_of, byte_of}
use Rattle.hyphenation_trie.specs.Private.States.{froms_by}
use Rattle.hyphenation_trie.specs.Private.Trie.{texts_of, AreApart, HasFroms}
use Rattle.hyphenation_trie.proofs.ChainsGrow.{chained-new, chained-push}
use Rattle.hyphenation_trie.proofs.FrozenTrie.{HasFroms-grow, byte_here, length-froms_by, parents_by}
use Rattle.hyphenation_trie.proofs.TrieNodes.{length-texts_of, texts_of-push, last_same, not_empty, root_text, root-push}

-- a text that no node has stays apart from the others
apart-grow : (texts : List (List ℕ)) (t : List ℕ) → ((j : ℕ) → j < length texts → get_or texts j [] ≢ t)
    → ((i j : ℕ) → i < length texts → j < length texts → get_or texts i [] ≡ get_or texts j [] → i ≡ j)
    → (i j : ℕ) → i < length (texts ++ t ∷ []) → j < length (texts ++ t ∷ []) → get_or (texts ++ t ∷ []) i [] ≡ get_or (texts ++ t ∷ []) j [] → i ≡ j
apart-grow texts t absent apart i j li lj e =
    let n : ℕ = length texts in
    let len = length-append texts (t ∷ []) in
    let old : (k : ℕ) → k < n → get_or (texts ++ t ∷ []) k [] ≡ get_or texts k [] = λ k lt. get_or_append_left texts (t ∷ []) [] k lt in
    let new : (k : ℕ) → k ≡ n → get_or (texts ++ t ∷ []) k [] ≡ t = λ k is. get_or_push texts t [] k (sym is) in
    elim (cases_lt i n) [
      | inl il ↦ elim (cases_lt j n) [
        | inl jl ↦ apart i j il jl (sym (old i il) ∙ e ∙ old j jl)
        | inr jg ↦ absurd (absent i il (sym (old i il) ∙ e ∙ new j (omega arith)))
      ]
      | inr ig ↦ elim (cases_lt j n) [
        | inl jl ↦ absurd (absent j jl (sym (old j jl) ∙ sym e ∙ new i (omega arith)))
        | inr jg ↦ omega arith
      ]
    ]

pub held-new : IsGrowing (None ∷ []) (0 ∷ []) (0 ∷ [])
held-new = record {
  root = refl;
  apart = λ i j li lj e. omega arith;
  from = λ j pos lj. absurd (omega arith);
  nodes = refl;
  chained = chained-new;
}

-- a parent comes before its children
pub earlier : (fs : List (Option (ℕ × ℕ))) → HasFroms (texts_of fs) fs → (j : ℕ) → 0 < j → j < length (map parent_of fs) → slice_index (map parent_of fs) j < j
earlier fs has j pos lj =
    let count : length (map parent_of fs) ≡ length fs = length-map fs parent_of in
    let h = has j pos (omega (arith, length-texts_of fs)) in
    omega (arith, h.2, get_or-map parent_of fs j None 0 (omega arith) ∙ ap parent_of h.1)

pub held-grow : (fs : List (Option (ℕ × ℕ))) (lasts befores : List ℕ) (n i b : ℕ) → n ≡ length fs → IsGrowing fs lasts befores → i < length (texts_of fs)
    → ((j : ℕ) → j < length (texts_of fs) → get_or (texts_of fs) j [] ≢ get_or (texts_of fs) i [] ++ b ∷ [])
    → IsGrowing (fs ++ Some (i, b) ∷ []) (set (lasts ++ 0 ∷ []) i n) (befores ++ slice_index lasts i ∷ [])
held-grow fs lasts befores n i b is held li absent =
    let texts : List (List ℕ) = texts_of fs in
    let t : List ℕ = get_or texts i [] ++ b ∷ [] in
    let push : texts_of (fs ++ Some (i, b) ∷ []) ≡ texts ++ t ∷ [] = texts_of-push fs (Some (i, b)) in
    let parents : map parent_of (fs ++ Some (i, b) ∷ []) ≡ map parent_of fs ++ i ∷ [] = map_push parent_of fs (Some (i, b)) in
    let count : length (map parent_of fs) ≡ n = length-map fs parent_of ∙ sym is in
    record {
      root = subst (λ (ts : List (List ℕ)). slice_get ts 0 ≡ Some []) (sym push) (root-push texts t held.root);
      apart = subst AreApart (sym push) (apart-grow texts t absent held.apart);
      from = subst (λ (ts : List (List ℕ)). HasFroms ts (fs ++ Some (i, b) ∷ [])) (sym push) (HasFroms-grow texts fs i b (sym (length-texts_of fs)) li held.from);
      nodes = length-set (lasts ++ 0 ∷ []) i n ∙ length-append lasts (0 ∷ []) ∙ ap (λ (m : ℕ). m + 1) held.nodes ∙ sym (length-append fs (Some (i, b) ∷ []));
      chained = subst (λ (cs : List ℕ). IsChained cs (set (lasts ++ 0 ∷ []) i n) (befores ++ slice_index lasts i ∷ [])) (sym parents) (
          subst (λ (m : ℕ). IsChained (map parent_of fs ++ i ∷ []) (set (lasts ++ 0 ∷ []) i m) (befores ++ slice_index lasts i ∷ [])) count (
          chained-push (map parent_of fs) lasts befores i held.chained (held.nodes ∙ sym is ∙ sym count) (earlier fs held.from) (omega (arith, count, is, length-texts_of fs))));
    }

-- a node of another parent is not the child sought
elsewhere : (froms : List (Option (ℕ × ℕ))) (node byte k : ℕ) → k < length froms → slice_index (map parent_of froms) k ≢ node → get_or froms k None ≢ Some (node, byte)
elsewhere froms node byte k lt apart e = apart (get_or-map parent_of froms k None 0 lt ∙ ap parent_of e)

pub sought-start : (froms : List (Option (ℕ × ℕ))) (lasts befores : List ℕ) (node byte child : ℕ) → IsGrowing froms lasts befores → node < length froms → child ≡ slice_index lasts node → IsSought froms node byte child
sought-start froms lasts befores node byte child held li is =
    let count : length (map parent_of froms) ≡ length froms = length-map froms parent_of in
    let h = held.chained.lasts node (omega (arith, held.nodes)) in
    record {
      here = λ pos. let w = h.within (omega arith) in (omega (arith, w.0), ap (λ (x : ℕ). slice_index (map parent_of froms) x) is ∙ w.1);
      above = λ k low high. elsewhere froms node byte k high (h.none k (omega arith) (omega arith));
    }

pub sought-next : (froms : List (Option (ℕ × ℕ))) (lasts befores : List ℕ) (node byte child next : ℕ) → IsGrowing froms lasts befores → IsSought froms node byte child → 0 < child
    → get_or froms child None ≢ Some (node, byte) → next ≡ slice_index befores child → (next < child) × IsSought froms node byte next
sought-next froms lasts befores node byte child next held at pos apart is =
    let count : length (map parent_of froms) ≡ length froms = length-map froms parent_of in
    let w = at.here pos in
    let h : IsLastBelow (map parent_of froms) (slice_index (map parent_of froms) child) child (slice_index befores child) = held.chained.befores child pos (omega (arith, w.0)) in
    let less : next < child = elim (cases_eq next 0) [ inl zero ↦ omega arith | inr some ↦ let v = h.within (omega arith) in omega (arith, v.0) ] in (
      less,
      record {
        here = λ some. let v = h.within (omega arith) in (omega (arith, w.0), ap (λ (x : ℕ). slice_index (map parent_of froms) x) is ∙ v.1 ∙ w.1);
        above = λ k low high. elim (cases_lt k child) [
          | inl below ↦ elsewhere froms node byte k high (λ e. h.none k (omega arith) below (e ∙ sym w.1))
          | inr over ↦ elim (cases_eq k child) [
            | inl same ↦ λ e. apart (ap (λ (x : ℕ). get_or froms x None) (sym same) ∙ e)
            | inr more ↦ at.above k (omega arith) high
          ]
        ];
      },
    )

same_from : (x y : ℕ × ℕ) → Some x ≡ Some y → x ≡ y
same_from x y e = cc

-- the node at hand is the child at its own byte
pub sought-byte : (froms : List (Option (ℕ × ℕ))) (lasts befores : List ℕ) (node byte child : ℕ) (from : Option (ℕ × ℕ)) → IsGrowing froms lasts befores → IsSought froms node byte child → 0 < child
    → get_or froms child None ≡ from → get_or froms child None ≡ Some (node, byte_of from)
sought-byte froms lasts befores node byte child from held at pos read =
    let w = at.here pos in
    let h = held.from child pos (omega (arith, length-texts_of froms, w.0)) in
    let parent : h.0.0 ≡ node = sym (get_or-map parent_of froms child None 0 w.0 ∙ ap parent_of h.1) ∙ w.1 in
    let own : h.0.1 ≡ byte_of from = ap byte_of (sym h.1 ∙ read) in
    h.1 ∙ ap (λ (x : ℕ). Some (x, h.0.1)) parent ∙ ap (λ (x : ℕ). Some (node, x)) own

pub other_byte : (node a b : ℕ) → ◌≡◌ {A = Option (ℕ × ℕ)} (Some (node, a)) (Some (node, b)) → a ≡ b
other_byte node a b e = ap (λ (x : ℕ × ℕ). x.1) (same_from (node, a) (node, b) e)

pub sought-found : (froms : List (Option (ℕ × ℕ))) (lasts befores : List ℕ) (node byte child : ℕ) → IsGrowing froms lasts befores → IsSought froms node byte child → 0 < child
    → get_or froms child None ≡ Some (node, byte) → (child < length (texts_of froms)) × (get_or (texts_of froms) child [] ≡ get_or (texts_of froms) node [] ++ byte ∷ [])
sought-found froms lasts befores node byte child held at pos is =
    let lt : child < length (texts_of froms) = omega (arith, length-texts_of froms, (at.here pos).0) in
    let h = held.from child pos lt in
    let from : h.0 ≡ (node, byte) = same_from h.0 (node, byte) (sym h.1 ∙ is) in
    (lt, h.3 ∙ ap (λ (x : ℕ × ℕ). get_or (texts_of froms) x.0 [] ++ x.1 ∷ []) from)

pub sought-none : (froms : List (Option (ℕ × ℕ))) (lasts befores : List ℕ) (node byte child : ℕ) → IsGrowing froms lasts befores → IsSought froms node byte child → child ≡ 0 → node < length (texts_of froms)
    → (j : ℕ) → j < length (texts_of froms) → get_or (texts_of froms) j [] ≢ get_or (texts_of froms) node [] ++ byte ∷ []
sought-none froms lasts befores node byte child held at none li j lj e = elim (cases_eq j 0) [
  | inl zero ↦ not_empty (get_or (texts_of froms) node []) byte (sym (root_text (texts_of froms) held.root).0 ∙ ap (λ (x : ℕ). get_or (texts_of froms) x []) (sym zero) ∙ e)
  | inr pos ↦
      let h = held.from j (omega arith) lj in
      let p = last_same (get_or (texts_of froms) h.0.0 []) (get_or (texts_of froms) node []) h.0.1 byte (sym h.3 ∙ e) in
      let same : h.0.0 ≡ node = held.apart h.0.0 node (omega (arith, h.2)) li p.0 in
      at.above j (omega arith) (omega (arith, length-texts_of froms)) (h.1 ∙ ap (λ (x : ℕ). Some (x, h.0.1)) same ∙ ap (λ (x : ℕ). Some (node, x)) p.1)
]

-- ---- children in the order of their bytes

pub ordered-new : IsOrderedFrom (0 ∷ []) (0 ∷ []) 0
ordered-new j k pos lt lk from same = absurd (omega arith)

-- no node after the new one has children yet
pub ordered-anew : (parents bytes : List ℕ) (i b n : ℕ) → n ≡ length parents → ((j : ℕ) → 0 < j → j < length parents → slice_index parents j < j) → i < length parents
    → IsOrderedFrom (parents ++ i ∷ []) (bytes ++ b ∷ []) n
ordered-anew parents bytes i b n is earlier li j k pos lt lk from same = elim (cases_lt k n) [
  | inl old ↦ absurd (omega (arith, is, old, from, get_or_append_left parents (i ∷ []) 0 k (omega arith), earlier k (omega arith) (omega arith)))
  | inr new ↦
      let last : k ≡ n = omega (arith, is, lk, length-append parents (i ∷ [])) in
      absurd (omega (arith, is, from, li, last, get_or_push parents i 0 k (sym is ∙ sym last)))
]

-- a child whose byte is no less than the last one's keeps the order
pub ordered-more : (parents bytes lasts befores : List ℕ) (first i b n : ℕ) → n ≡ length parents → length bytes ≡ length parents → length lasts ≡ length parents → IsChained parents lasts befores → i < length parents
    → IsOrderedFrom parents bytes first → slice_index bytes (slice_index lasts i) ≤ b → IsOrderedFrom (parents ++ i ∷ []) (bytes ++ b ∷ []) first
ordered-more parents bytes lasts befores first i b n is count each chained li ordered le j k pos lt lk from same =
    let up : (m : ℕ) → m < n → slice_index (parents ++ i ∷ []) m ≡ slice_index parents m = λ m lm. get_or_append_left parents (i ∷ []) 0 m (omega arith) in
    let at : (m : ℕ) → m < n → slice_index (bytes ++ b ∷ []) m ≡ slice_index bytes m = λ m lm. get_or_append_left bytes (b ∷ []) 0 m (omega (arith, count)) in
    elim (cases_lt k n) [
      | inl old ↦ omega (arith, at j (omega arith), at k old, ordered j k pos lt (omega arith) (omega (arith, from, up k old)) (sym (up j (omega arith)) ∙ same ∙ up k old))
      | inr new ↦
          let last : k ≡ n = omega (arith, is, lk, length-append parents (i ∷ [])) in
          let parent : slice_index (parents ++ i ∷ []) k ≡ i = get_or_push parents i 0 k (sym is ∙ sym last) in
          let byte : slice_index (bytes ++ b ∷ []) k ≡ b = get_or_push bytes b 0 k (count ∙ sym is ∙ sym last) in
          let jn : j < n = omega arith in
          let mine : slice_index parents j ≡ i = sym (up j jn) ∙ same ∙ parent in
          let l : ℕ = slice_index lasts i in
          let h = chained.lasts i (omega (arith, each)) in
          elim (cases_lt l j) [
            | inl after ↦ absurd (h.none j after (omega arith) mine)
            | inr upto ↦
                let w = h.within (omega arith) in
                elim (cases_eq j l) [
                  | inl same_child ↦ omega (arith, at j jn, byte, le, ap (λ (x : ℕ). slice_index bytes x) same_child)
                  | inr before ↦ omega (arith, at j jn, byte, le, ordered j l pos (omega arith) w.0 (omega (arith, w.1, from, parent)) (mine ∙ sym w.1))
                ]
          ]
    ]

-- the child sought is no sibling before one of a lesser byte, where the children are in order
pub sought-past : (parents bytes : List ℕ) (first node byte child : ℕ) → parents ≡ 0 ∷ drop 1 parents → bytes ≡ 0 ∷ drop 1 bytes → length bytes ≡ length parents → IsOrderedFrom parents bytes first → first ≤ node
    → IsSought (froms_by parents bytes) node byte child → 0 < child → slice_index bytes child < byte → IsSought (froms_by parents bytes) node byte 0
sought-past parents bytes first node byte child p b e ordered le at pos less =
    let froms : List (Option (ℕ × ℕ)) = froms_by parents bytes in
    let count : length froms ≡ length parents = length-froms_by parents bytes p e in
    let up : (m : ℕ) → slice_index (map parent_of froms) m ≡ slice_index parents m = λ m. ap (λ (xs : List ℕ). slice_index xs m) (parents_by parents bytes p e) in
    let w = at.here pos in
    let mine : slice_index parents child ≡ node = sym (up child) ∙ w.1 in
    record {
      here = λ some. absurd (omega arith);
      above = λ k low high is.
          let parent : slice_index parents k ≡ node = sym (up k) ∙ get_or-map parent_of froms k None 0 high ∙ ap parent_of is in
          let own : slice_index bytes k ≡ byte = sym (byte_here parents bytes k b e high) ∙ ap byte_of is in
          elim (cases_lt child k) [
            | inl after ↦ at.above k after high is
            | inr upto ↦ elim (cases_eq k child) [
              | inl same ↦ omega (arith, own, less, ap (λ (x : ℕ). slice_index bytes x) same)
              | inr before ↦ omega (arith, own, less, ordered k child low (omega arith) (omega (arith, count, w.0)) (omega (arith, mine)) (parent ∙ sym mine))
            ]
          ];
    }
