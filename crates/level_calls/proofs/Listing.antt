-- The change of one more place is listed behind the others. A list without changes lists none.
use Rattle.std.proofs.Common.{◌≡◌, ℕ, zero, suc, ◌+◌, ◌<◌, List, [], ◌∷◌, ◌++◌, length, take, get_or, refl, ap, ◌∙◌, arith}
use Rattle.std.specs.Prelude.{Option, None, option_map, replicate}
use Rattle.std.specs.List.{enumerate_from, flat_map}
use Rattle.std.proofs.lemmas.Grind.{flat_map-append}
use Rattle.std.proofs.lemmas.List.{append-nil, length-map, length-take-le, map-append, take_more}
use Rattle.libhyphen_rule.specs.Found.{placed, placed_all, placed_or_none}
use Rattle.libhyphen_rule.specs.OneLevel.{ChangeAt}
use Rattle.libhyphen_rule.specs.declared.one_level.PlacedChange.{PlacedChange}
use Rattle.level_calls.specs.Changes.{change_listed, listed_changes, listed_texts}

-- one more element has the next number
numbered : {X : Type 0} (n : ℕ) (xs : List X) (x : X) → enumerate_from n (xs ++ x ∷ []) ≡ enumerate_from n xs ++ (n + length xs, x) ∷ []
numbered n [] x = let e : n ≡ n + 0 = omega arith in ap (λ (k : ℕ). (k, x) ∷ []) e
numbered n (y ∷ ys) x =
    let e : n + 1 + length ys ≡ n + length (y ∷ ys) = omega arith in
    ap (λ l. (n, y) ∷ l) (numbered (n + 1) ys x ∙ ap (λ (k : ℕ). enumerate_from (n + 1) ys ++ (k, x) ∷ []) e)

pub listed_more : (changes : List (Option PlacedChange)) (i : ℕ) (d x : Option PlacedChange) → i < length changes → get_or changes i d ≡ x
    → listed_changes (placed_all (take (i + 1) changes)) ≡ listed_changes (placed_all (take i changes)) ++ change_listed (i, option_map placed x)
unfolding listed_changes
listed_more changes i d x lt is =
    let before = placed_all (take i changes) in
    let size : 0 + length before ≡ i = omega (arith, length-map (take i changes) (option_map placed), length-take-le i changes (omega (arith, lt))) in
    ap (λ l. listed_changes (placed_all l)) (take_more changes i d lt)
    ∙ ap (λ l. listed_changes l) (map-append (option_map placed) (take i changes) (get_or changes i d ∷ []))
    ∙ ap (λ l. flat_map change_listed l) (numbered 0 before (option_map placed (get_or changes i d)))
    ∙ flat_map-append change_listed (enumerate_from 0 before) ((0 + length before, option_map placed (get_or changes i d)) ∷ [])
    ∙ ap (λ l. listed_changes before ++ l) (append-nil (change_listed (0 + length before, option_map placed (get_or changes i d))))
    ∙ ap (λ (y : Option PlacedChange). listed_changes before ++ change_listed (0 + length before, option_map placed y)) is
    ∙ ap (λ (k : ℕ). listed_changes before ++ change_listed (k, option_map placed x)) size

-- ---- Places without changes.

abbrev none_at : ℕ → List (Option ChangeAt)
none_at places = replicate places None

none_listed_from : (places first : ℕ) → flat_map change_listed (enumerate_from first (none_at places)) ≡ []
none_listed_from zero first = refl
none_listed_from (suc places) first = none_listed_from places (first + 1)

-- Places without changes list none.
pub no_changes_listed : (places : ℕ) → listed_changes (none_at places) ≡ []
unfolding listed_changes
no_changes_listed places = none_listed_from places 0

pub no_texts_listed : (places : ℕ) → listed_texts (none_at places) ≡ []
unfolding listed_texts
no_texts_listed zero = refl
no_texts_listed (suc places) = no_texts_listed places

-- An empty list of changes is listed as that of places without changes.
pub listed_or_none : (places : ℕ) (changes : List (Option PlacedChange))
    → listed_changes (placed_or_none places changes) ≡ listed_changes (placed_all changes)
unfolding listed_changes
listed_or_none places [] = none_listed_from places 0
listed_or_none places (change ∷ changes) = refl

pub texts_or_none : (places : ℕ) (changes : List (Option PlacedChange))
    → listed_texts (placed_or_none places changes) ≡ listed_texts (placed_all changes)
unfolding listed_texts
texts_or_none places [] = no_texts_listed places
texts_or_none places (change ∷ changes) = refl
