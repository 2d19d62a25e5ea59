-- Lists made from the numbers of those characters that pass a test.
use Rattle.std.proofs.Common.{◌≡◌, ℕ, ◌+◌, Bool, true, false, cond, [], ◌∷◌, ◌++◌, map, filter, zero, suc, refl, ap, subst, ◌∙◌, arith, add-one, add-zero}
use Rattle.std.specs.List.{range_with_len}
use Rattle.std.proofs.lemmas.List.{map-append}
use Rattle.std.proofs.lemmas.List.Elements.{filter-append}

range_suc : (a n : ℕ) → range_with_len a (suc n) ≡ range_with_len a n ++ (a + n) ∷ []
range_suc a zero = rw add-zero refl
range_suc a (suc n) = let e = range_suc (a + 1) n in let k : (a + 1) + n ≡ a + suc n = omega arith in ap (λ l. a ∷ l) (subst (λ m. range_with_len (a + 1) (suc n) ≡ range_with_len (a + 1) n ++ m ∷ []) k e)

-- The list of f at the numbers below n that pass the test grows by f at n, if n passes.
pub picked_more : {X : Type 0} (f : ℕ → X) (p : ℕ → Bool) (n : ℕ) → map f (filter p (range_with_len 0 (n + 1))) ≡ map f (filter p (range_with_len 0 n)) ++ cond (p n) (f n ∷ []) []
picked_more f p n =
    let r : range_with_len 0 (n + 1) ≡ range_with_len 0 n ++ n ∷ [] = rw add-one (range_suc 0 n ∙ ap (λ m. range_with_len 0 n ++ m ∷ []) (omega arith)) in
    let one : map f (filter p (n ∷ [])) ≡ cond (p n) (f n ∷ []) [] = elim (p n) as (λ b. map f (cond b (n ∷ []) []) ≡ cond b (f n ∷ []) []) [ true ↦ refl | false ↦ refl ] in
    ap (λ l. map f (filter p l)) r ∙ ap (map f) (filter-append p (range_with_len 0 n) (n ∷ [])) ∙ map-append f (filter p (range_with_len 0 n)) (filter p (n ∷ [])) ∙ ap (λ l. map f (filter p (range_with_len 0 n)) ++ l) one
