-- Lists in which a part's places were put.
use Rattle.std.proofs.Common.{◌≡◌, ◌≢◌, ℕ, zero, suc, ◌+◌, ◌-◌, ◌<◌, ◌≤◌, ◌||◌, Bool, true, false, cond, List, [], ◌∷◌, map, length, get_or, take, set, Option, None, Some, refl, sym, ap, ◌∙◌, arith, zero-add, length-set, is_some}
use Rattle.std.specs.List.{range_with_len, list_any}
use Rattle.std.specs.Option.{option_or, option_map}
use Rattle.std.proofs.lemmas.Grind.{common_steps}
use Rattle.std.proofs.lemmas.Bool.Decides.{nat_tests}
use Rattle.std.proofs.lemmas.List.{length-map, take-map}
use Rattle.std.proofs.Math.Seq.{take-length}
use Rattle.std.proofs.lemmas.List.Folds.{list_any_at, list_any_more}
use Rattle.std.proofs.lemmas.List.FromFn.{fill_by_all, get_or-map-range_with_len, length-map-range_with_len}
use Rattle.hyphenation_breaks.specs.Ascii.{digit_zero}
use Rattle.libhyphen_rule.specs.OneLevel.{ChangeAt}
use Rattle.libhyphen_rule.specs.Found.{placed, placed_all}
use Rattle.libhyphen_rule.specs.Parts.{is_within, digit_with, change_with, digits_with, changes_with, some_change}
use Rattle.libhyphen_rule.specs.declared.one_level.PlacedChange.{PlacedChange}

within_none : (b k : ℕ) → is_within b 0 k ≡ false
within_none b k = grind (arith, nat_tests)

pub within_before : (b j k : ℕ) → b + j ≤ k → is_within b j k ≡ false
within_before b j k h = grind (arith, nat_tests)

within_more : (b j k : ℕ) → k ≢ b + j → is_within b j k ≡ is_within b (j + 1) k
within_more b j k ne = grind (arith, nat_tests)

within_at : (b j : ℕ) → is_within b (j + 1) (b + j) ≡ true
within_at b j = grind (arith, nat_tests)

within_all : (n k : ℕ) → k < n → is_within 0 n k ≡ true
within_all n k h = grind (arith, nat_tests)

sub_begin : (b j : ℕ) → (b + j) - b ≡ j
sub_begin b j = omega arith

-- Two lists made of functions that agree.
pub map_range_agree : {X : Type 0} (f g : ℕ → X) (n : ℕ) (d : X) → ((k : ℕ) → k < n → f k ≡ g k) → map f (range_with_len 0 n) ≡ map g (range_with_len 0 n)
map_range_agree f g n d same =
    fill_by_all g (map f (range_with_len 0 n)) n d (length-map-range_with_len f 0 n)
    (λ k h. get_or-map-range_with_len f 0 n k k d h (zero-add k) ∙ same k h)

at_set : {X : Type 0} (xs : List X) (i k : ℕ) (v d w : X) → i < length xs → (k ≡ i → v ≡ w) → (k ≢ i → get_or xs k d ≡ w) → get_or (set xs i v) k d ≡ w
at_set xs i k v d w h same other = grind (arith, common_steps)

-- A list made of a function, after a write.
map_range_set : {X : Type 0} (f g : ℕ → X) (n i : ℕ) (v d : X) → i < n → g i ≡ v → ((k : ℕ) → k ≢ i → f k ≡ g k) →
    set (map f (range_with_len 0 n)) i v ≡ map g (range_with_len 0 n)
map_range_set f g n i v d h is same =
    fill_by_all g (set (map f (range_with_len 0 n)) i v) n d (length-set (map f (range_with_len 0 n)) i v ∙ length-map-range_with_len f 0 n)
    (λ k k_in. at_set (map f (range_with_len 0 n)) i k v d (g k)
    (let l = length-map-range_with_len f 0 n in omega (arith, l))
    (λ e. sym is ∙ ap g (sym e))
    (λ ne. get_or-map-range_with_len f 0 n k k d k_in (zero-add k) ∙ same k ne))

pub digits_with-none : (xs : List ℕ) (b : ℕ) (p : List ℕ) → xs ≡ digits_with xs b 0 p
unfolding digits_with
digits_with-none xs b p =
    fill_by_all (digit_with xs b 0 p) xs (length xs) 0 refl
    (λ k h. sym (ap (λ t. cond t (get_or p (k - b) digit_zero) (get_or xs k 0)) (within_none b k)))

pub digits_with-more : (xs : List ℕ) (b j : ℕ) (p now : List ℕ) (v : ℕ) → b + j < length xs → now ≡ digits_with xs b j p → v ≡ get_or p j digit_zero →
    set now (b + j) v ≡ digits_with xs b (j + 1) p
unfolding digits_with
digits_with-more xs b j p now v h is v_is =
    ap (λ l. set l (b + j) v) is
    ∙ map_range_set (digit_with xs b j p) (digit_with xs b (j + 1) p) (length xs) (b + j) v 0 h
    (ap (λ t. cond t (get_or p ((b + j) - b) digit_zero) (get_or xs (b + j) 0)) (within_at b j) ∙ ap (λ k. get_or p k digit_zero) (sub_begin b j) ∙ sym v_is)
    (λ k ne. ap (λ t. cond t (get_or p (k - b) digit_zero) (get_or xs k 0)) (within_more b j k ne))

pub changes_with-none : {X : Type 0} (xs : List (Option X)) (b : ℕ) (p : List (Option X)) → xs ≡ changes_with xs b 0 p
unfolding changes_with
changes_with-none xs b p =
    fill_by_all (change_with xs b 0 p) xs (length xs) None refl
    (λ k h. sym (ap (λ t. cond t (option_or (get_or p (k - b) None) (get_or xs k None)) (get_or xs k None)) (within_none b k)))

pub changes_with-length : {X : Type 0} (xs : List (Option X)) (b j : ℕ) (p : List (Option X)) → length (changes_with xs b j p) ≡ length xs
unfolding changes_with
changes_with-length xs b j p = length-map-range_with_len (change_with xs b j p) 0 (length xs)

changes_with-at : {X : Type 0} (xs : List (Option X)) (b j : ℕ) (p : List (Option X)) (d : Option X) → b + j < length xs →
    get_or (changes_with xs b j p) (b + j) d ≡ get_or xs (b + j) None
unfolding changes_with
changes_with-at xs b j p d h =
    let e : b + j ≤ b + j = omega arith in
    get_or-map-range_with_len (change_with xs b j p) 0 (length xs) (b + j) (b + j) d h (zero-add (b + j))
    ∙ ap (λ t. cond t (option_or (get_or p ((b + j) - b) None) (get_or xs (b + j) None)) (get_or xs (b + j) None)) (within_before b j (b + j) e)

changes_with-put : {X : Type 0} (xs : List (Option X)) (b j : ℕ) (p now : List (Option X)) (v : Option X) → b + j < length xs → now ≡ changes_with xs b j p →
    v ≡ option_or (get_or p j None) (get_or xs (b + j) None) → set now (b + j) v ≡ changes_with xs b (j + 1) p
unfolding changes_with
changes_with-put xs b j p now v h is v_is =
    ap (λ l. set l (b + j) v) is
    ∙ map_range_set (change_with xs b j p) (change_with xs b (j + 1) p) (length xs) (b + j) v None h
    (ap (λ t. cond t (option_or (get_or p ((b + j) - b) None) (get_or xs (b + j) None)) (get_or xs (b + j) None)) (within_at b j)
    ∙ ap (λ k. option_or (get_or p k None) (get_or xs (b + j) None)) (sub_begin b j) ∙ sym v_is)
    (λ k ne. ap (λ t. cond t (option_or (get_or p (k - b) None) (get_or xs k None)) (get_or xs k None)) (within_more b j k ne))

pub changes_with-more : {X : Type 0} (xs : List (Option X)) (b j : ℕ) (p now : List (Option X)) (v : Option X) → b + j < length xs → now ≡ changes_with xs b j p →
    v ≡ option_or (get_or p j None) (get_or now (b + j) None) → set now (b + j) v ≡ changes_with xs b (j + 1) p
changes_with-more xs b j p now v h is v_is =
    changes_with-put xs b j p now v h is
    (v_is ∙ ap (option_or (get_or p j None)) (ap (λ l. get_or l (b + j) None) is ∙ changes_with-at xs b j p None h))

-- ---- Changes, as contracts see them.

pub some_placed : (changes : List (Option PlacedChange)) → some_change (placed_all changes) ≡ list_any is_some changes
some_placed [] = refl
some_placed (None ∷ xs) = some_placed xs
some_placed (Some x ∷ xs) = refl

map_or : {X Y : Type 0} (f : X → Y) (a b : Option X) → option_map f (option_or a b) ≡ option_or (option_map f a) (option_map f b)
map_or f None b = refl
map_or f (Some x) b = refl

pub placed_get : (changes : List (Option PlacedChange)) (k : ℕ) → option_map placed (get_or changes k None) ≡ get_or (placed_all changes) k None
placed_get [] k = refl
placed_get (x ∷ xs) zero = refl
placed_get (x ∷ xs) (suc k) = placed_get xs k

cond_map : {X Y : Type 0} (f : X → Y) (t : Bool) (a b : X) → f (cond t a b) ≡ cond t (f a) (f b)
cond_map f true a b = refl
cond_map f false a b = refl

placed_change_with : (xs : List (Option PlacedChange)) (b n : ℕ) (p : List (Option PlacedChange)) (k : ℕ) →
    option_map placed (change_with xs b n p k) ≡ change_with (placed_all xs) b n (placed_all p) k
placed_change_with xs b n p k =
    cond_map (option_map placed) (is_within b n k) (option_or (get_or p (k - b) None) (get_or xs k None)) (get_or xs k None)
    ∙ ap (λ e. cond (is_within b n k) e (option_map placed (get_or xs k None)))
    (map_or placed (get_or p (k - b) None) (get_or xs k None) ∙ ap (λ o. option_or o (option_map placed (get_or xs k None))) (placed_get p (k - b)))
    ∙ ap (λ o. cond (is_within b n k) (option_or (get_or (placed_all p) (k - b) None) o) o) (placed_get xs k)

pub placed_with : (xs : List (Option PlacedChange)) (b n : ℕ) (p : List (Option PlacedChange)) →
    placed_all (changes_with xs b n p) ≡ changes_with (placed_all xs) b n (placed_all p)
unfolding changes_with
placed_with xs b n p =
    let l : length (placed_all xs) ≡ length xs = length-map xs (option_map placed) in
    fill_by_all (change_with (placed_all xs) b n (placed_all p)) (placed_all (map (change_with xs b n p) (range_with_len 0 (length xs)))) (length xs) None
    (length-map (map (change_with xs b n p) (range_with_len 0 (length xs))) (option_map placed) ∙ length-map-range_with_len (change_with xs b n p) 0 (length xs))
    (λ k h. sym (placed_get (map (change_with xs b n p) (range_with_len 0 (length xs))) k)
    ∙ ap (option_map placed) (get_or-map-range_with_len (change_with xs b n p) 0 (length xs) k k None h (zero-add k))
    ∙ placed_change_with xs b n p k)
    ∙ ap (λ m. map (change_with (placed_all xs) b n (placed_all p)) (range_with_len 0 m)) (sym l)

none_of_some : (xs : List (Option ChangeAt)) (k : ℕ) → some_change xs ≡ false → get_or xs k None ≡ None
none_of_some [] k h = refl
none_of_some (None ∷ xs) zero h = refl
none_of_some (None ∷ xs) (suc k) h = none_of_some xs k h
none_of_some (Some x ∷ xs) k h = cc

or_none : {X : Type 0} (o : Option X) → option_or o None ≡ o
or_none None = refl
or_none (Some x) = refl

-- All changes are those of the part, if there were none.
pub with_all : (xs p : List (Option ChangeAt)) (n : ℕ) → length xs ≡ n → length p ≡ n → some_change xs ≡ false → p ≡ changes_with xs 0 n p
unfolding changes_with
with_all xs p n xs_long p_long none =
    fill_by_all (change_with xs 0 n p) p n None p_long
    (λ k h. sym (ap (λ t. cond t (option_or (get_or p (k - 0) None) (get_or xs k None)) (get_or xs k None)) (within_all n k h)
    ∙ ap (λ o. option_or (get_or p (k - 0) None) o) (none_of_some xs k none) ∙ or_none (get_or p (k - 0) None)
    ∙ (let e : k - 0 ≡ k = omega arith in ap (λ i. get_or p i None) e)))
    ∙ ap (λ m. map (change_with xs 0 n p) (range_with_len 0 m)) (sym xs_long)

-- ---- Whether there is a change.

pub any_here : (xs : List (Option PlacedChange)) (i : ℕ) → i < length xs → is_some (get_or xs i None) ≡ true → true ≡ some_change (placed_all xs)
any_here xs i h some = sym (some_placed xs ∙ list_any_at is_some xs i None h some)

pub any_past : (xs : List (Option PlacedChange)) (i : ℕ) (x : Option PlacedChange) → i < length xs → list_any is_some (take i xs) ≡ false → x ≡ get_or xs i x →
    is_some x ≡ false → list_any is_some (take (i + 1) xs) ≡ false
any_past xs i x h before is none =
    list_any_more is_some xs i x h ∙ ap (λ t. t || is_some (get_or xs i x)) before ∙ ap is_some (sym is) ∙ none

pub any_end : (xs : List (Option PlacedChange)) (i : ℕ) → i ≡ length xs → list_any is_some (take i xs) ≡ false → false ≡ some_change (placed_all xs)
any_end xs i end before = sym (some_placed xs ∙ ap (list_any is_some) (sym (take-length xs)) ∙ ap (λ n. list_any is_some (take n xs)) (sym end) ∙ before)

pub any_within : (xs : List (Option PlacedChange)) (n : ℕ) → some_change (placed_all (take n xs)) ≡ some_change (take n (placed_all xs))
any_within xs n = ap some_change (sym (take-map (option_map placed) n xs))
