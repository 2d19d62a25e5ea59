-- A word that is added to a map and removed again.
use Rattle.std.proofs.Common.{◌≡◌, ℕ, Bool, true, false, cond, List, Option, Some, None, refl, sym, ap, subst, ◌∙◌}
use Rattle.std.specs.Ordering.{nat_cmp, eq_by_cmp}
use Rattle.std.specs.Cmp.Lexicographic.{slice_cmp, nat_list_cmp_total, bytes_decides, texts_ties}
use Rattle.std.specs.FinMap as finite
use Rattle.std.specs.FinMap.{get-insert, get-remove, same_map, nat_cmp-IsAntisymmetric, slice_cmp-IsAntisymmetric}
use Rattle.hyphenation_breaks.specs.Dictionary.{TextMap}

pub undone : {X : Type 0} (m : TextMap X) (word : List ℕ) (x : X) → finite.get m word ≡ None → finite.remove (finite.insert m word x) word ≡ m
undone {X} m word x none =
    same_map nat_list_cmp_total (slice_cmp-IsAntisymmetric nat_cmp-IsAntisymmetric) (finite.remove (finite.insert m word x) word) m
    (λ q. get-remove nat_list_cmp_total (finite.insert m word x) word q
    ∙ ap (λ (o : Option X). cond (eq_by_cmp (slice_cmp nat_cmp) q word) None o) (get-insert nat_list_cmp_total m word x q)
    ∙ by q (eq_by_cmp (slice_cmp nat_cmp) q word) refl)
  where
    by : (q : List ℕ) (t : Bool) → eq_by_cmp (slice_cmp nat_cmp) q word ≡ t → cond t None (cond t (Some x) (finite.get m q)) ≡ finite.get m q
    by q true e = sym (subst (λ (k : List ℕ). finite.get m k ≡ None) (sym ((bytes_decides q word).0 (texts_ties q word ∙ e))) none)
    by q false e = refl
