-- A test of the first and of the last elements of a list, which have some in common, is a test of all.
use Rattle.std.proofs.Common.{◌≡◌, ℕ, ◌+◌, ◌-◌, ◌≤◌, Bool, true, false, ◌&&◌, List, ◌++◌, length, take, drop, refl, sym, ap, ◌∙◌, arith}
use Rattle.std.specs.List.{list_all}
use Rattle.std.proofs.lemmas.List.{take-append-drop, drop-append-le, length-take-le}
use Rattle.std.proofs.lemmas.List.Folds.{list_all-append}

-- The middle one of three parts is tested twice.
twice : (a b c : Bool) → ((a && b) && (b && c)) ≡ ((a && b) && c)
twice true true c = refl
twice true false c = refl
twice false b c = refl

parts : (p : ℕ → Bool) (m : ℕ) (xs : List ℕ) → list_all p xs ≡ (list_all p (take m xs) && list_all p (drop m xs))
parts p m xs = ap (list_all p) (sym (take-append-drop m xs)) ∙ list_all-append p (take m xs) (drop m xs)

pub all_by_ends : (p : ℕ → Bool) (n : ℕ) (xs : List ℕ) → n ≤ length xs → length xs ≤ n + n
    → (list_all p (take n xs) && list_all p (drop (length xs - n) xs)) ≡ list_all p xs
all_by_ends p n xs least most =
    let m : ℕ = length xs - n in
    let front : List ℕ = take n xs in
    let back : List ℕ = drop n xs in
    let tail : drop m xs ≡ drop m front ++ back = ap (drop m) (sym (take-append-drop n xs)) ∙ drop-append-le m front back (omega (arith, length-take-le n xs least)) in
    ap (λ b. b && list_all p (drop m xs)) (parts p m front)
    ∙ ap (λ b. (list_all p (take m front) && list_all p (drop m front)) && b) (ap (list_all p) tail ∙ list_all-append p (drop m front) back)
    ∙ twice (list_all p (take m front)) (list_all p (drop m front)) (list_all p back)
    ∙ ap (λ b. b && list_all p back) (sym (parts p m front))
    ∙ sym (parts p n xs)
