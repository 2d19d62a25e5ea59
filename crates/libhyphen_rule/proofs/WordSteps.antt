-- Ranges of numbers with one more of them, and what lists made over them are then. Fronts of lists.
use Rattle.std.proofs.Common.{◌≡◌, ◌+◌, ◌∙◌, ℕ, zero, suc, Bool, true, false, if◌then◌else◌, List, [], ◌∷◌, ◌++◌, map, refl, set, sym, take, ap, arith, append-nil}
use Rattle.std.specs.Prelude.{◌||◌, filter, fold}
use Rattle.std.specs.List.{list_any, range_with_len}
use Rattle.std.proofs.lemmas.List.{map-append, map-id}
use Rattle.std.proofs.lemmas.List.Elements.{filter-append}
use Rattle.std.proofs.lemmas.List.Sums.{fold-append}
use Rattle.std.proofs.lemmas.List.FromFn.{map-range_with_len_more}

map-id_range : (a n : ℕ) → map (λ k. k) (range_with_len a n) ≡ range_with_len a n
map-id_range a n = map-id (range_with_len a n)

pub range_more : (n : ℕ) → range_with_len 0 (n + 1) ≡ range_with_len 0 n ++ n ∷ []
range_more n =
    sym (map-id_range 0 (n + 1))
    ∙ map-range_with_len_more (λ k. k) 0 n n (omega arith)
    ∙ ap (λ xs. xs ++ n ∷ []) (map-id_range 0 n)

pub fold_more : {S : Type 0} (f : S → ℕ → S) (start : S) (n : ℕ)
    → fold f start (range_with_len 0 (n + 1)) ≡ f (fold f start (range_with_len 0 n)) n
fold_more f start n = ap (fold f start) (range_more n) ∙ fold-append f start (range_with_len 0 n) (n ∷ [])

filter_more : (p : ℕ → Bool) (n : ℕ)
    → filter p (range_with_len 0 (n + 1)) ≡ filter p (range_with_len 0 n) ++ filter p (n ∷ [])
filter_more p n = ap (filter p) (range_more n) ∙ filter-append p (range_with_len 0 n) (n ∷ [])

-- One more number that passes the test.
pub kept_more : {Y : Type 0} (f : ℕ → Y) (p : ℕ → Bool) (n : ℕ) → p n ≡ true
    → map f (filter p (range_with_len 0 (n + 1))) ≡ map f (filter p (range_with_len 0 n)) ++ f n ∷ []
kept_more f p n passes =
    ap (map f) (filter_more p n)
    ∙ map-append f (filter p (range_with_len 0 n)) (filter p (n ∷ []))
    ∙ ap (λ (b : Bool). map f (filter p (range_with_len 0 n)) ++ map f (if b then n ∷ [] else [])) passes

-- One more number that does not.
pub left_more : {Y : Type 0} (f : ℕ → Y) (p : ℕ → Bool) (n : ℕ) → p n ≡ false
    → map f (filter p (range_with_len 0 (n + 1))) ≡ map f (filter p (range_with_len 0 n))
left_more f p n fails =
    ap (map f) (filter_more p n)
    ∙ map-append f (filter p (range_with_len 0 n)) (filter p (n ∷ []))
    ∙ ap (λ (b : Bool). map f (filter p (range_with_len 0 n)) ++ map f (if b then n ∷ [] else [])) fails
    ∙ append-nil (map f (filter p (range_with_len 0 n)))

-- A test of some items of a list, as one of the list.
pub any_of_map : {X Y : Type 0} (p : Y → Bool) (f : X → Y) (xs : List X)
    → list_any p (map f xs) ≡ list_any (λ x. p (f x)) xs
any_of_map p f [] = refl
any_of_map p f (x ∷ xs) = ap (λ (b : Bool). p (f x) || b) (any_of_map p f xs)

-- The first numbers of a list stay where one behind them is set.
pub take_before_set : (xs : List ℕ) (k v : ℕ) → take k (set xs k v) ≡ take k xs
take_before_set [] k v = refl
take_before_set (x ∷ xs) zero v = refl
take_before_set (x ∷ xs) (suc k) v = ap (λ (ys : List ℕ). x ∷ ys) (take_before_set xs k v)
