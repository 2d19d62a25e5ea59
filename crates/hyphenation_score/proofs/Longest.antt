-- No key is longer than the longest.
use Rattle.std.proofs.Common.{◌≡◌, ℕ, ◌≤◌, max, Bool, true, false, ◌||◌, List, [], ◌∷◌, length, map, sym, ap, ◌∙◌, refl, arith}
use Rattle.std.specs.Prelude.{IsSome}
use Rattle.std.specs.List.{list_any}
use Rattle.std.specs.Ordering.{nat_cmp, eq_by_cmp}
use Rattle.std.specs.Cmp.Lexicographic.{slice_cmp, bytes_decides, texts_ties}
use Rattle.std.specs.FinMap as finite
use Rattle.std.specs.FinMap.{contains_key-keys}
use Rattle.hyphenation_breaks.specs.Dictionary.{Contents, entries_of_keys, greatest, longest_key}
use Rattle.hyphenation_score.proofs.GreatestValues.{greatest_from}

either_true : (a b : Bool) → (a || b) ≡ true → a ≡ false → b ≡ true
either_true true b h e = absurd cc
either_true false b h e = h

among_most : (q : List ℕ) (ks : List (List ℕ)) → list_any (eq_by_cmp (slice_cmp nat_cmp) q) ks ≡ true → length q ≤ greatest (map length ks)
among_most q [] h = absurd cc
among_most q (k ∷ ks) h =
    let split : greatest (map length (k ∷ ks)) ≡ max (max 0 (length k)) (greatest (map length ks)) = greatest_from (max 0 (length k)) (map length ks) in
    elim (eq_by_cmp (slice_cmp nat_cmp) q k) as (λ b. eq_by_cmp (slice_cmp nat_cmp) q k ≡ b → length q ≤ greatest (map length (k ∷ ks))) [
      | true ↦ λ e. let same : q ≡ k = (bytes_decides q k).0 (texts_ties q k ∙ e) in omega (arith, ap length same)
      | false ↦ λ e. omega (arith, among_most q ks (either_true (eq_by_cmp (slice_cmp nat_cmp) q k) (list_any (eq_by_cmp (slice_cmp nat_cmp) q) ks) h e))
    ] refl

pub no_longer : {C B : Type 0} (contents : Contents C B) (q : List ℕ) → IsSome (entries_of_keys contents q) → length q ≤ longest_key contents
no_longer contents q h = among_most q (finite.keys contents.patterns) (sym (contains_key-keys contents.patterns q) ∙ h)
