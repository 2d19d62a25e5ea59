-- The odd numbers of a list, found 16 at once.
use Rattle.std.proofs.Common.{◌≡◌, ◌≢◌, ◌∙◌, ℕ, zero, suc, ◌+◌, ◌%◌, ◌^◌, ◌<◌, ltb, Bool, true, false, cond, not, List, [], ◌∷◌, length, get_or, map, set, take, replicate, refl, sym, ap, arith, w8, bit_and}
use Rattle.std.specs.Prelude.{◌||◌}
use Rattle.std.specs.List.{list_any, prefix_len}
use Rattle.std.proofs.lemmas.Bool.{ne_eqb, or_right}
use Rattle.std.proofs.lemmas.Bool.Decides.{nat_tests}
use Rattle.std.proofs.lemmas.List.{length-map}
use Rattle.std.proofs.lemmas.Nat.{and_mask}
use Rattle.std.proofs.lemmas.Simd.{first_set_mask_l, map-map, mask_l-mod, tops_compared, zip2_splat, zip2_splat_left}
use lib.Count.{count_trailing_zeros}
use lib.Dec.{eqb}
use lib.Lanes.{mask_l, top, zip2}
use Rattle.libhyphen_rule.specs.OneLevel.{is_odd}

-- A lane is odd if its lowest bit is above 0.
abbrev pub odd_lane : ℕ → Bool
odd_lane x = ltb 0 (bit_and x 1)

pub odd_lane_is : (x : ℕ) → odd_lane x ≡ is_odd x
odd_lane_is x =
    let low : bit_and x 1 ≡ x % 2 = and_mask x 1 in
    ap (λ b. ltb 0 b) low ∙ grind (arith, nat_tests)

-- The mask of 16 lanes has a bit for each odd one.
pub odd_mask : (xs : List ℕ) → length xs ≡ 16
    → mask_l (map (top 7) (zip2 (λ a b. cond (ltb a b) 255 0) (replicate 16 0) (zip2 bit_and xs (replicate 16 1)))) % 2 ^ 64
    ≡ mask_l (map odd_lane xs)
odd_mask xs long =
    let anded : zip2 bit_and xs (replicate 16 1) ≡ map (λ x. bit_and x 1) xs = zip2_splat bit_and xs 16 1 long in
    let tests : zip2 ltb (replicate 16 0) (zip2 bit_and xs (replicate 16 1)) ≡ map odd_lane xs =
    ap (zip2 ltb (replicate 16 0)) anded
    ∙ zip2_splat_left ltb 0 16 (map (λ x. bit_and x 1) xs) (length-map xs (λ x. bit_and x 1) ∙ long)
    ∙ map-map (ltb 0) (λ x. bit_and x 1) xs in
    ap (λ ms. mask_l ms % 2 ^ 64) (tops_compared w8 ltb (replicate 16 0) (zip2 bit_and xs (replicate 16 1)) ∙ tests)
    ∙ mask_l-mod (map odd_lane xs) 64 (omega (arith, length-map xs odd_lane, long))

-- Where the mask has a bit, the lowest is that of the first odd lane.
pub first_odd : (mask : ℕ) (xs : List ℕ) → length xs ≡ 16 → mask ≡ mask_l (map odd_lane xs) → mask ≢ 0
    → count_trailing_zeros 64 mask ≡ prefix_len (λ x. not (odd_lane x)) xs
first_odd mask xs long is some =
    ap (λ (b : Bool). cond {A = ℕ} b 16 (count_trailing_zeros 64 mask)) (sym (ne_eqb mask 0 some))
    ∙ ap (λ (m : ℕ). cond {A = ℕ} (eqb m 0) 16 (count_trailing_zeros 64 m)) is
    ∙ first_set_mask_l odd_lane xs 16 long (omega arith)

-- ---- Lists of digits.

-- Some number passes a test where one does.
pub any_at : (p : ℕ → Bool) (xs : List ℕ) (k : ℕ) → k < length xs → p (get_or xs k 0) ≡ true → list_any p xs ≡ true
any_at p [] k lt is = absurd (omega arith)
any_at p (x ∷ xs) zero lt is = ap (λ b. b || list_any p xs) is
any_at p (x ∷ xs) (suc k) lt is = or_right (p x) (list_any p xs) (any_at p xs k (omega arith) is)

-- None does where no one does.
pub none_of : (p : ℕ → Bool) (xs : List ℕ) → ((k : ℕ) → k < length xs → p (get_or xs k 0) ≡ false) → list_any p xs ≡ false
none_of p [] none = refl
none_of p (x ∷ xs) none =
    let first : p x ≡ false = none 0 (omega arith) in
    ap (λ b. b || list_any p xs) first ∙ none_of p xs (λ k l. none (suc k) (omega (arith, l)))

-- A last number that does not pass does not count.
pub any_but_last : (p : ℕ → Bool) (xs : List ℕ) (n z : ℕ) → p z ≡ false → length xs ≡ n + 1 → list_any p (set xs n z) ≡ list_any p (take n xs)
any_but_last p [] n z even long = absurd (omega arith)
any_but_last p (x ∷ []) zero z even long = ap (λ b. b || false) even
any_but_last p (x ∷ y ∷ xs) zero z even long = absurd (omega arith)
any_but_last p (x ∷ xs) (suc n) z even long = ap (λ b. p x || b) (any_but_last p xs n z even (omega (arith, long)))
