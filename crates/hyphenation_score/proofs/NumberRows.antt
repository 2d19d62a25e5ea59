-- Numbers in a row.
use Rattle.std.proofs.Common.{◌≡◌, ℕ, zero, suc, ◌+◌, ◌<◌, ◌≤◌, List, [], ◌∷◌, ◌++◌, refl, ap, ◌∙◌, arith}
use Rattle.std.specs.List.{flat_map, range_with_len}

pub range-append : (a m n : ℕ) → range_with_len a (m + n) ≡ range_with_len a m ++ range_with_len (a + m) n
range-append a zero n = ap (range_with_len a) (omega arith) ∙ ap (λ (k : ℕ). range_with_len k n) (omega arith)
range-append a (suc m) n =
    let one : suc m + n ≡ suc (m + n) = omega arith in
    let two : (a + 1) + m ≡ a + suc m = omega arith in
    ap (range_with_len a) one ∙ ap (λ (zs : List ℕ). a ∷ zs) (range-append (a + 1) m n ∙ ap (λ (k : ℕ). range_with_len (a + 1) m ++ range_with_len k n) two)

pub range_more : (a n : ℕ) → range_with_len a (n + 1) ≡ range_with_len a n ++ (a + n) ∷ []
range_more a n = range-append a n 1

pub flat_map_none : {A : Type 0} (f : ℕ → List A) (a n : ℕ) → ((k : ℕ) → a ≤ k → k < a + n → f k ≡ []) → flat_map f (range_with_len a n) ≡ []
flat_map_none f a zero h = refl
flat_map_none f a (suc n) h = ap (λ xs. xs ++ flat_map f (range_with_len (a + 1) n)) (h a (omega arith) (omega arith)) ∙ flat_map_none f (a + 1) n (λ k low high. h k (omega arith) (omega arith))
