-- A range of a list that grows by one element.
use Rattle.std.proofs.Common.{◌≡◌, ℕ, ◌+◌, ◌-◌, ◌<◌, ◌≤◌, List, [], ◌∷◌, ◌++◌, length, take, drop, slice_range, get_or, ap, ◌∙◌, arith, add-one, drop-cons, length-drop}
use Rattle.std.proofs.Math.Nat.{sub_self}
use Rattle.std.proofs.lemmas.List.{take_more, get_or-drop}

pub drop_more : (xs : List ℕ) (i : ℕ) → i < length xs → drop i xs ≡ get_or xs i 0 ∷ drop (i + 1) xs
drop_more xs i h = rw (add-one, drop-cons xs i 0)

pub slice_more : (xs : List ℕ) (a i : ℕ) → a ≤ i → i < length xs → slice_range xs a (i + 1) ≡ slice_range xs a i ++ get_or xs i 0 ∷ []
slice_more xs a i le lt =
    let count : i + 1 - a ≡ (i - a) + 1 = omega arith in
    let at : a + (i - a) ≡ i = omega arith in
    let inside : i - a < length (drop a xs) = omega (arith, length-drop a xs) in
    ap (λ n. take n (drop a xs)) count ∙ take_more (drop a xs) (i - a) 0 inside
    ∙ ap (λ x. take (i - a) (drop a xs) ++ x ∷ []) (get_or-drop a xs (i - a) 0 ∙ ap (λ n. get_or xs n 0) at)

pub slice_one : (xs : List ℕ) (i : ℕ) → i < length xs → slice_range xs i (i + 1) ≡ get_or xs i 0 ∷ []
slice_one xs i lt =
    let none : i - i ≡ 0 = omega arith in
    slice_more xs i i (omega arith) lt ∙ ap (λ n. take n (drop i xs) ++ get_or xs i 0 ∷ []) none
