-- The numbers of the nodes' vectors, node by node.
use Rattle.std.proofs.Common.{◌≡◌, ℕ, ◌+◌, ◌-◌, ◌<◌, List, [], ◌∷◌, ◌++◌, length, get_or, replicate, refl, sym, ap, subst, ◌∙◌, arith, inl, inr}
use Rattle.std.specs.Prelude.{slice_index}
use Rattle.std.proofs.lemmas.Bool.{cases_lt}
use Rattle.std.proofs.lemmas.List.{length-append, get_or_append_left, get_or_push, get_or-replicate}
use Rattle.hyphenation_breaks.specs.Ascii.{digit_zero}
use Rattle.hyphenation_trie.specs.Pairs.{ArePairs, KeepsPairs}
use Rattle.hyphenation_trie.specs.Trie.{Tree}
use Rattle.libhyphen_files.specs.Patterns.{Pattern}
use Rattle.libhyphen_files.specs.Vectors.{IsNodeVector, IsNumberOf}
use Rattle.libhyphen_files.specs.Private.Vectors.{AreNodesNumbered, AreNumbered, KeepsVectors}

-- the root has no pattern
root_vector : (tree : Tree Pattern) → IsNodeVector tree 0 (replicate 16 0)
root_vector tree =
    let zero : (lane : ℕ) → lane < 16 → get_or (replicate 16 0) lane 0 ≡ 0 = λ lane lt. get_or-replicate 16 lane 0 0 lt in
    record {
      lanes = refl;
      known = λ low. record {
        no_change = refl;
        each = λ lane place lt is. sym (ap (λ (n : ℕ). digit_zero + n) (zero lane lt));
        before = λ lane lt. zero lane (omega arith);
        far = λ place lt. refl;
      };
    }

-- at first only the root has a number
pub nodes_start : (tree : Tree Pattern) (numbers : List ℕ) (vectors : List (List ℕ)) → numbers ≡ 0 ∷ [] → vectors ≡ replicate 16 0 ∷ replicate 16 255 ∷ [] → AreNodesNumbered tree numbers vectors 1
nodes_start tree numbers vectors first two =
    let both : List (List ℕ) = replicate 16 0 ∷ replicate 16 255 ∷ [] in
    subst (λ (ns : List ℕ). AreNodesNumbered tree ns vectors 1) (sym first)
    (subst (λ (vs : List (List ℕ)). AreNodesNumbered tree (0 ∷ []) vs 1) (sym two) (record {
      numbered = record { few = omega arith; two = omega arith; none = refl; unknown = refl };
      nodes = refl;
      root = refl;
      each = λ node lt.
          let is : 0 ≡ node = omega arith in
          subst (λ (n : ℕ). IsNumberOf tree both n (slice_index (0 ∷ []) n)) is (record { within = omega arith; vector = root_vector tree });
    }))

-- one node more
pub nodes_more : (tree : Tree Pattern) (numbers next : List ℕ) (vectors new : List (List ℕ)) (node number : ℕ) → 0 < node → next ≡ numbers ++ number ∷ [] → KeepsVectors vectors new → AreNumbered new
    → IsNumberOf tree new node number → AreNodesNumbered tree numbers vectors node → AreNodesNumbered tree next new (node + 1)
nodes_more tree numbers next vectors new node number pos pushed kept numbered here was =
    let long : length next ≡ node + 1 = ap length pushed ∙ length-append numbers (number ∷ []) ∙ ap (λ (n : ℕ). n + 1) was.nodes in
    let before : (k : ℕ) → k < node → slice_index next k ≡ slice_index numbers k = λ k lt. ap (λ (ns : List ℕ). slice_index ns k) pushed ∙ get_or_append_left numbers (number ∷ []) 0 k (omega (arith, was.nodes)) in
    let last : slice_index next node ≡ number = ap (λ (ns : List ℕ). slice_index ns node) pushed ∙ get_or_push numbers number 0 node was.nodes in
    record {
      numbered = numbered;
      nodes = long;
      root = before 0 pos ∙ was.root;
      each = λ k lt. elim (cases_lt k node) [
        | inl low ↦
            let old = was.each k low in
            subst (λ (n : ℕ). IsNumberOf tree new k n) (sym (before k low)) (record {
              within = omega (arith, old.within, kept.more);
              vector = subst (λ (v : List ℕ). IsNodeVector tree k v) (sym (kept.same (slice_index numbers k) old.within)) old.vector;
            })
        | inr high ↦
            let is : node ≡ k = omega arith in
            subst (λ (n : ℕ). IsNumberOf tree new n (slice_index next n)) is (subst (λ (n : ℕ). IsNumberOf tree new node n) (sym last) here)
      ];
    }

-- ---- vectors that keep their numbers

pub vectors_kept : (old : List (List ℕ)) (old_counts : List ℕ) (new : List (List ℕ)) (counts : List ℕ) → KeepsPairs old old_counts new counts → KeepsVectors old new
vectors_kept old old_counts new counts kept = record {
  more = elim (cases_lt 0 (length old)) [
    | inl some ↦
        let last : ℕ = length old - 1 in
        omega (arith, (kept last (omega arith)).within)
    | inr none ↦ omega arith
  ];
  same = λ number lt. (kept number lt).vector_is;
}

pub numbered_kept : (old new : List (List ℕ)) (counts : List ℕ) → ArePairs new counts → KeepsVectors old new → AreNumbered old → AreNumbered new
numbered_kept old new counts pairs kept was = record {
  few = pairs.few;
  two = omega (arith, was.two, kept.more);
  none = kept.same 0 (omega (arith, was.two)) ∙ was.none;
  unknown = kept.same 1 (omega (arith, was.two)) ∙ was.unknown;
}
