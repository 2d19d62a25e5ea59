-- A fact of each text of a finite map stays true after an insertion and a removal.
use Rattle.std.proofs.Common.{◌≡◌, ℕ, Bool, true, false, cond, nat_eq, List, Some, None, refl, sym, subst, ◌∙◌}
use Rattle.std.specs.Ordering.{nat_cmp, eq_by_cmp}
use Rattle.std.specs.Cmp.Lexicographic.{slice_cmp, pointwise, bytes_decides, nat_list_cmp_total, nat_list_eq_equiv, texts_ties}
use Rattle.std.specs.FinMap as finite
use Rattle.std.specs.FinMap.{get-insert, get-remove}
use Rattle.hyphenation_breaks.specs.Dictionary.{TextMap}

-- A finite map of texts compares them byte by byte.
pub same_test : (a b : List ℕ) → eq_by_cmp (slice_cmp nat_cmp) a b ≡ pointwise nat_eq b a
same_test a b = sym (texts_ties a b) ∙ nat_list_eq_equiv.symm a b

-- The fact holds of each text of the map with its value.
abbrev pub Holds : {X : Type 0} → (List ℕ → X → Type 0) → TextMap X → Type 0
Holds {X} P texts = (q : List ℕ) (x : X) → finite.get texts q ≡ Some x → P q x

pub inserted : {X : Type 0} (P : List ℕ → X → Type 0) (texts : TextMap X) (k : List ℕ) (v : X) → Holds P texts → P k v → Holds P (finite.insert texts k v)
inserted {X} P texts k v all is q x has = by (eq_by_cmp (slice_cmp nat_cmp) q k) refl (sym (get-insert nat_list_cmp_total texts k v q) ∙ has)
  where
    by : (t : Bool) → eq_by_cmp (slice_cmp nat_cmp) q k ≡ t → cond t (Some v) (finite.get texts q) ≡ Some x → P q x
    by true e h =
        let same : k ≡ q = (bytes_decides k q).0 (sym (same_test q k) ∙ e) in
        let says : v ≡ x = cc in
        subst (λ (w : List ℕ). P w x) same (subst (λ (y : X). P k y) says is)
    by false e h = all q x h

pub removed : {X : Type 0} (P : List ℕ → X → Type 0) (texts : TextMap X) (k : List ℕ) → Holds P texts → Holds P (finite.remove texts k)
removed {X} P texts k all q x has = by (eq_by_cmp (slice_cmp nat_cmp) q k) (sym (get-remove nat_list_cmp_total texts k q) ∙ has)
  where
    by : (t : Bool) → cond t None (finite.get texts q) ≡ Some x → P q x
    by true h = absurd cc
    by false h = all q x h
