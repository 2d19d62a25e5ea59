-- Some of the numbers that follow one another.
use Rattle.std.proofs.Common.{◌≡◌, ℕ, ◌+◌, ◌<◌, ◌≤◌, Bool, true, false, cond, zero, suc, List, [], ◌∷◌, ◌++◌, filter, refl, sym, ap, subst, ◌∙◌, arith}
use Rattle.std.specs.List.{range_with_len}
use Rattle.std.proofs.lemmas.List.Elements.{filter-append}

pub none_among : (f : ℕ → Bool) (a n : ℕ) → ((q : ℕ) → a ≤ q → q < a + n → f q ≡ false) → filter f (range_with_len a n) ≡ []
none_among f a zero none = refl
none_among f a (suc n) none =
    ap (λ b. cond b (a ∷ filter f (range_with_len (a + 1) n)) (filter f (range_with_len (a + 1) n))) (none a (omega arith) (omega arith))
    ∙ none_among f (a + 1) n (λ q above below. none q (omega arith) (omega arith))

pub first_among : (f : ℕ → Bool) (a n m : ℕ) → n ≡ m + 1 → filter f (range_with_len a n) ≡ cond (f a) (a ∷ []) [] ++ filter f (range_with_len (a + 1) m)
first_among f a zero m e = absurd (omega (arith, e))
first_among f a (suc n) m e =
    let same : n ≡ m = omega (arith, e) in
    elim (f a) as (λ b. cond b (a ∷ filter f (range_with_len (a + 1) n)) (filter f (range_with_len (a + 1) n)) ≡ cond b (a ∷ []) [] ++ filter f (range_with_len (a + 1) m)) [
      | true ↦ ap (λ k. a ∷ filter f (range_with_len (a + 1) k)) same
      | false ↦ ap (λ k. filter f (range_with_len (a + 1) k)) same
    ]

range_append : (a n m k : ℕ) → k ≡ a + n → range_with_len a (n + m) ≡ range_with_len a n ++ range_with_len k m
range_append a zero m k e =
    let same : a ≡ k = omega (arith, e) in
    let none : 0 + m ≡ m = omega arith in
    ap (range_with_len a) none ∙ ap (λ i. range_with_len i m) same
range_append a (suc n) m k e =
    let more : suc n + m ≡ suc (n + m) = omega arith in
    ap (range_with_len a) more ∙ ap (λ l. a ∷ l) (range_append (a + 1) n m k (omega (arith, e)))

pub more_among : (f : ℕ → Bool) (a n m k : ℕ) → k ≡ a + n → filter f (range_with_len a n) ++ filter f (range_with_len k m) ≡ filter f (range_with_len a (n + m))
more_among f a n m k e = sym (ap (filter f) (range_append a n m k e) ∙ filter-append f (range_with_len a n) (range_with_len k m))

pub one_more_among : (f : ℕ → Bool) (a n k : ℕ) → k ≡ a + n → filter f (range_with_len a n) ++ cond (f k) (k ∷ []) [] ≡ filter f (range_with_len a (n + 1))
one_more_among f a n k e = more_among f a n 1 k e
