-- The greatest of numbers, and of the ranks and values of entries.
use Rattle.std.proofs.Common.{◌≡◌, ℕ, zero, suc, ◌+◌, ◌<◌, ◌≤◌, max, List, [], ◌∷◌, ◌++◌, map, fold, ap, ◌∙◌, arith, inl, inr}
use Rattle.std.specs.List.{flat_map, range_with_len}
use Rattle.std.proofs.lemmas.Bool.{cases_eq}
use Rattle.std.proofs.lemmas.List.{map-append}
use Rattle.std.proofs.lemmas.Grind.{fold-append}
use Rattle.hyphenation_breaks.specs.declared.entry.Entry.{Entry}
use Rattle.hyphenation_breaks.specs.Dictionary.{greatest}
use Rattle.hyphenation_breaks.specs.Ranks.{plain_rank, greatest_rank}
use Rattle.hyphenation_score.specs.Scoring.{greatest_value}

pub greatest_from : (a : ℕ) (ns : List ℕ) → fold max a ns ≡ max a (greatest ns)
greatest_from a [] = omega arith
greatest_from a (n ∷ ns) = omega (arith, greatest_from (max a n) ns, greatest_from (max 0 n) ns)

pub greatest-append : (xs ys : List ℕ) → greatest (xs ++ ys) ≡ max (greatest xs) (greatest ys)
greatest-append xs ys = fold-append max 0 xs ys ∙ greatest_from (greatest xs) ys

-- ---- ranks

module _ {C : Type 0} (rank : C → ℕ → ℕ) where
  pub greatest_rank-append : (xs ys : List (Entry C)) → greatest_rank rank (xs ++ ys) ≡ max (greatest_rank rank xs) (greatest_rank rank ys)
  greatest_rank-append xs ys =
      let f = λ (e : Entry C). rank e.change e.value in
      ap greatest (map-append f xs ys) ∙ greatest-append (map f xs) (map f ys)

  -- joined lists have no greater rank than each of them
  pub greatest_rank-within : (f : ℕ → List (Entry C)) (a n v : ℕ) → ((k : ℕ) → a ≤ k → k < a + n → greatest_rank rank (f k) ≤ v) → greatest_rank rank (flat_map f (range_with_len a n)) ≤ v
  greatest_rank-within f a zero v h = omega arith
  greatest_rank-within f a (suc n) v h =
      omega (arith, greatest_rank-append (f a) (flat_map f (range_with_len (a + 1) n)), h a (omega arith) (omega arith), greatest_rank-within f (a + 1) n v (λ k low high. h k (omega arith) (omega arith)))

  -- a list of a row has no greater rank than the row
  pub row_rank : (f : ℕ → List (Entry C)) (a n k : ℕ) → a ≤ k → k < a + n → greatest_rank rank (f k) ≤ greatest_rank rank (flat_map f (range_with_len a n))
  row_rank f a zero k low high = absurd (omega arith)
  row_rank f a (suc n) k low high =
      let all = greatest_rank-append (f a) (flat_map f (range_with_len (a + 1) n)) in
      elim (cases_eq k a) [
        | inl is ↦ omega (arith, all, ap (λ (x : ℕ). greatest_rank rank (f x)) is)
        | inr apart ↦ omega (arith, all, row_rank f (a + 1) n k (omega arith) (omega arith))
      ]

-- ---- values, which are plain ranks

pub greatest_value-append : {C : Type 0} (xs ys : List (Entry C)) → greatest_value (xs ++ ys) ≡ max (greatest_value xs) (greatest_value ys)
greatest_value-append xs ys = greatest_rank-append plain_rank xs ys

-- joined lists have no greater value than each of them
pub greatest_value-within : {C : Type 0} (f : ℕ → List (Entry C)) (a n v : ℕ) → ((k : ℕ) → a ≤ k → k < a + n → greatest_value (f k) ≤ v) → greatest_value (flat_map f (range_with_len a n)) ≤ v
greatest_value-within f a n v h = greatest_rank-within plain_rank f a n v h

-- a list of a row has no greater value than the row
pub row_value : {C : Type 0} (f : ℕ → List (Entry C)) (a n k : ℕ) → a ≤ k → k < a + n → greatest_value (f k) ≤ greatest_value (flat_map f (range_with_len a n))
row_value f a n k low high = row_rank plain_rank f a n k low high
