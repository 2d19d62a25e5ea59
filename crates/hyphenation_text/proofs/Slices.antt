-- Ranges of a list: of one more element, of two that follow one another, and within one another.
use Rattle.std.proofs.Common.{◌≡◌, ℕ, ◌+◌, ◌-◌, ◌<◌, ◌≤◌, List, [], ◌∷◌, ◌++◌, length, take, drop, slice_range, get_or, ap, sym, ◌∙◌, arith, add-one, drop-cons, length-drop}
use Rattle.std.proofs.Math.Nat.{sub_self}
use Rattle.std.proofs.Math.Seq.{take-append-add}
use Rattle.std.proofs.lemmas.List.{take_more, get_or-drop, take-take, drop-drop, drop-take}
use Rattle.std.proofs.lemmas.List.Edits.{length-between}
use Rattle.std.proofs.lemmas.List.Folds.{drop_split}

pub drop_more : (xs : List ℕ) (i : ℕ) → i < length xs → drop i xs ≡ get_or xs i 0 ∷ drop (i + 1) xs
drop_more xs i h = rw (add-one, drop-cons xs i 0)

pub slice_more : (xs : List ℕ) (a i : ℕ) → a ≤ i → i < length xs → slice_range xs a (i + 1) ≡ slice_range xs a i ++ get_or xs i 0 ∷ []
slice_more xs a i le lt =
    let count : i + 1 - a ≡ (i - a) + 1 = omega arith in
    let at : a + (i - a) ≡ i = omega arith in
    let inside : i - a < length (drop a xs) = omega (arith, length-drop a xs) in
    ap (λ n. take n (drop a xs)) count ∙ take_more (drop a xs) (i - a) 0 inside
    ∙ ap (λ x. take (i - a) (drop a xs) ++ x ∷ []) (get_or-drop a xs (i - a) 0 ∙ ap (λ n. get_or xs n 0) at)

pub slice_none : (xs : List ℕ) (i : ℕ) → slice_range xs i i ≡ []
slice_none xs i = ap (λ n. take n (drop i xs)) (sub_self i)

pub slice_join : (xs : List ℕ) (a b c : ℕ) → a ≤ b → b ≤ c → b ≤ length xs → slice_range xs a c ≡ slice_range xs a b ++ slice_range xs b c
slice_join xs a b c ab bc inside =
    let parts : c - a ≡ length (slice_range xs a b) + (c - b) = omega (arith, length-between xs a b inside) in
    ap (take (c - a)) (drop_split xs a b ab) ∙ ap (λ n. take n (slice_range xs a b ++ drop b xs)) parts ∙ take-append-add (slice_range xs a b) (drop b xs) (c - b)

-- A range of a range.
pub slice_in : (xs ys : List ℕ) (a b i n : ℕ) → b ≤ length xs → ys ≡ slice_range xs a b → i + n ≤ length ys → slice_range ys i (i + n) ≡ slice_range xs (a + i) (a + i + n)
slice_in xs ys a b i n inside are le =
    let long : length ys ≡ b - a = ap length are ∙ length-between xs a b inside in
    let own : i + n - i ≡ n = omega arith in
    let whole : a + i + n - (a + i) ≡ n = omega arith in
    let parts : b - a ≡ i + (b - a - i) = omega (arith, long) in
    ap (λ k. take k (drop i ys)) own ∙ ap (λ zs. take n (drop i zs)) are
    ∙ ap (λ k. take n (drop i (take k (drop a xs)))) parts ∙ ap (take n) (drop-take i (b - a - i) (drop a xs))
    ∙ take-take n (b - a - i) (drop i (drop a xs)) (omega (arith, long))
    ∙ ap (take n) (drop-drop i a xs) ∙ sym (ap (λ k. take k (drop (a + i) xs)) whole)
