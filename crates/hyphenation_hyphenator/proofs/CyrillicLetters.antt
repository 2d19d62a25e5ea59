-- Words whose pairs of bytes all encode common lowercase letters of Cyrillic, tested in lanes.
use Rattle.std.proofs.Common.{◌≡◌, ℕ, zero, suc, ◌+◌, ◌-◌, ◌/◌, ◌%◌, ◌^◌, ◌<◌, ◌≤◌, eqb, ltb, ◌&&◌, ◌||◌, not, cond, nat_le, Bool, true, false, List, [], ◌∷◌, ◌++◌, map, length, get_or, drop, replicate, refl, sym, ap, ◌∙◌, w8, arith, inl, inr}
use Rattle.std.specs.List.{range_with_len}
use Rattle.std.proofs.lemmas.Bool.{cases_lt, agree_below_at, not-false, or_left}
use Rattle.std.proofs.lemmas.List.{get_or_append_left, get_or-append_right, get_or-drop}
use Rattle.std.proofs.lemmas.List.FromFn.{get_or-range_with_len}
use Rattle.std.proofs.lemmas.Simd.{mask_l-mod, zip2_of_maps, splat_is_map, pick_l_whole, none_from_empty_mask, length-chunk, get_or-chunk}
use lib.Lanes.{chunk, mask_l, top, zip2}
use borrow.Rule.Simd.Lanes.{act1, act2}
use borrow.Table.Row.{s_int}
use mir.Syntax.{bit_and, bit_or, bit_not}
use Rattle.hyphenation_hyphenator.specs.Private.CommonLowercase.{is_common_pair, are_common_lowercase}
use Rattle.hyphenation_hyphenator.proofs.CommonLowercase.{pair_first, pair_small}

-- ---- lanes

-- The results of operations on vectors of bytes in a lane: bit by bit, by comparison, and by a difference that wraps.
abbrev both8 : ℕ → ℕ → ℕ
both8 = act2 bit_and (s_int w8) (s_int w8) (s_int w8)

abbrev either8 : ℕ → ℕ → ℕ
either8 = act2 bit_or (s_int w8) (s_int w8) (s_int w8)

abbrev other8 : ℕ → ℕ
other8 = act1 bit_not (s_int w8) (s_int w8)

abbrev equal8 : ℕ → ℕ → ℕ
equal8 a b = cond (eqb a b) 255 0

abbrev below8 : ℕ → ℕ → ℕ
below8 a b = cond (ltb a b) 255 0

abbrev less8 : ℕ → ℕ → ℕ
less8 a b = (a + (256 - b)) % 256

-- The lane of a first and a second byte: its highest bit is set where they encode no such letter.
abbrev lane_of : ℕ → ℕ → ℕ
lane_of a b = other8 (either8 (both8 (equal8 a 208) (below8 (less8 b 176) 16)) (both8 (equal8 a 209) (below8 (less8 b 128) 32)))

-- The lanes that `are_letters` computes of all first and second bytes.
abbrev pub lanes_of : List ℕ → List ℕ → List ℕ
lanes_of firsts seconds =
    map other8 (zip2 either8
    (zip2 both8 (zip2 equal8 firsts (replicate 16 208)) (zip2 below8 (zip2 less8 seconds (replicate 16 176)) (replicate 16 16)))
    (zip2 both8 (zip2 equal8 firsts (replicate 16 209)) (zip2 below8 (zip2 less8 seconds (replicate 16 128)) (replicate 16 32))))

-- A lane is all ones or 0, so that its highest bit tells what its comparisons give.
bits : (p q r s : Bool) → top 7 (other8 (either8 (both8 (cond p 255 0) (cond q 255 0)) (both8 (cond r 255 0) (cond s 255 0)))) ≡ not ((p && q) || (r && s))
bits true true true true = refl
bits true true true false = refl
bits true true false true = refl
bits true true false false = refl
bits true false true true = refl
bits true false true false = refl
bits true false false true = refl
bits true false false false = refl
bits false true true true = refl
bits false true true false = refl
bits false true false true = refl
bits false true false false = refl
bits false false true true = refl
bits false false true false = refl
bits false false false true = refl
bits false false false false = refl

lane_letter : (a b : ℕ) → b < 256 → top 7 (lane_of a b) ≡ false → is_common_pair a b ≡ true
lane_letter a b lt e =
    let early = agree_below_at (λ x. ltb (less8 x 176) 16) (λ x. nat_le 0xB0 x && nat_le x 0xBF) 256 b refl lt in
    let late = agree_below_at (λ x. ltb (less8 x 128) 32) (λ x. nat_le 0x80 x && nat_le x 0x9F) 256 b refl lt in
    let is = not-false _ (sym (bits (eqb a 208) (ltb (less8 b 176) 16) (eqb a 209) (ltb (less8 b 128) 32)) ∙ e) in
    or_left _ _ (or_left _ _ (
    sym (ap (λ t. (eqb a 208 && t) || (eqb a 209 && ltb (less8 b 128) 32)) early ∙ ap (λ t. (eqb a 208 && (nat_le 0xB0 b && nat_le b 0xBF)) || (eqb a 209 && t)) late) ∙ is
    ))

pub letters_in_lanes : (firsts seconds : List ℕ) → length firsts ≡ 16 → length seconds ≡ 16 → mask_l (map (top 7) (lanes_of firsts seconds)) % 2 ^ 64 ≡ 0
    → (lane : ℕ) → lane < 16 → get_or seconds lane 0 < 256 → is_common_pair (get_or firsts lane 0) (get_or seconds lane 0) ≡ true
letters_in_lanes firsts seconds f_long s_long none lane lt fits =
    let places = range_with_len 0 16 in
    let first : ℕ → ℕ = λ k. get_or firsts k 0 in
    let second : ℕ → ℕ = λ k. get_or seconds k 0 in
    let f_is : firsts ≡ map first places = sym (pick_l_whole 0 firsts 16 f_long) in
    let s_is : seconds ≡ map second places = sym (pick_l_whole 0 seconds 16 s_long) in
    let equal = λ (n : ℕ). zip2_of_maps equal8 first (λ _. n) places f_is (splat_is_map places 16 n refl) in
    let less = λ (n : ℕ). zip2_of_maps less8 second (λ _. n) places s_is (splat_is_map places 16 n refl) in
    let below = λ (n m : ℕ). zip2_of_maps below8 (λ k. less8 (second k) n) (λ _. m) places (less n) (splat_is_map places 16 m refl) in
    let early = zip2_of_maps both8 (λ k. equal8 (first k) 208) (λ k. below8 (less8 (second k) 176) 16) places (equal 208) (below 176 16) in
    let late = zip2_of_maps both8 (λ k. equal8 (first k) 209) (λ k. below8 (less8 (second k) 128) 32) places (equal 209) (below 128 32) in
    let either =
    zip2_of_maps either8 (λ k. both8 (equal8 (first k) 208) (below8 (less8 (second k) 176) 16)) (λ k. both8 (equal8 (first k) 209) (below8 (less8 (second k) 128) 32)) places early late in
    let other : ℕ → Bool = λ k. top 7 (lane_of (first k) (second k)) in
    let lanes : map (top 7) (lanes_of firsts seconds) ≡ map other places = ap (λ xs. map (top 7) (map other8 xs)) either in
    let mask : mask_l (map other places) ≡ 0 = sym (ap (λ xs. mask_l xs % 2 ^ 64) lanes ∙ mask_l-mod (map other places) 64 (omega arith)) ∙ none in
    let here : other (get_or places lane 0) ≡ false = none_from_empty_mask other places 0 16 0 (omega arith) mask lane (omega arith) (omega arith) in
    let is : get_or places lane 0 ≡ lane = omega (arith, get_or-range_with_len 0 16 lane 0 lt) in
    lane_letter (first lane) (second lane) fits (sym (ap other is) ∙ here)

-- ---- pairs

pub same_pair : (a b c d : ℕ) → a ≡ c → b ≡ d → is_common_pair a b ≡ true → is_common_pair c d ≡ true
same_pair a b c d first second e = sym (ap (λ x. is_common_pair x b) first ∙ ap (λ x. is_common_pair c x) second) ∙ e

-- Each pair of a word encodes a common lowercase letter.
all_pairs : (n : ℕ) (word : List ℕ) → length word ≡ n + n → ((i : ℕ) → i < n → is_common_pair (get_or word (i + i) 0) (get_or word (i + i + 1) 0) ≡ true) → are_common_lowercase word ≡ true
all_pairs n [] long each = refl
all_pairs n (b ∷ []) long each = absurd (omega arith)
all_pairs zero (b ∷ c ∷ bs) long each = absurd (omega arith)
all_pairs (suc n) (b ∷ c ∷ bs) long each =
    let pair : is_common_pair b c ≡ true = each 0 (omega arith) in
    let above = (pair_small b c pair).0 in
    let next : (i : ℕ) → i < n → is_common_pair (get_or bs (i + i) 0) (get_or bs (i + i + 1) 0) ≡ true =
    λ i lt.
    let at : suc i + suc i ≡ suc (suc (i + i)) = omega arith in
    let after : suc (suc (i + i)) + 1 ≡ suc (suc (i + i + 1)) = omega arith in
    sym (ap (λ k. is_common_pair (get_or (b ∷ c ∷ bs) k 0) (get_or (b ∷ c ∷ bs) (k + 1) 0)) at ∙ ap (λ k. is_common_pair (get_or bs (i + i) 0) (get_or (b ∷ c ∷ bs) k 0)) after) ∙ each (suc i) (omega arith) in
    pair_first b c bs (omega arith) ∙ ap (λ t. t && are_common_lowercase bs) pair ∙ all_pairs n bs (omega arith) next

-- The first and the last bytes of a word, one after the other.
abbrev pub ends_of_word : ℕ → List ℕ → List ℕ
ends_of_word m word = chunk 0 m word ++ chunk 0 m (drop (length word - m) word)

at_begin : (m : ℕ) (word : List ℕ) (k : ℕ) → m ≤ length word → k < m → get_or (ends_of_word m word) k 0 ≡ get_or word k 0
at_begin m word k le lt =
    let last = chunk 0 m (drop (length word - m) word) in
    let is : 0 + k ≡ k = omega arith in
    get_or_append_left (chunk 0 m word) last 0 k (omega (arith, length-chunk 0 m word (omega arith))) ∙ get_or-chunk 0 m word k 0 lt ∙ ap (λ j. get_or word j 0) is

at_end : (m : ℕ) (word : List ℕ) (k i : ℕ) → m ≤ length word → k < m + m → m ≤ k → (length word - m) + (k - m) ≡ i → get_or (ends_of_word m word) k 0 ≡ get_or word i 0
at_end m word k i le lt ge is =
    let last = chunk 0 m (drop (length word - m) word) in
    let at : (length word - m) + (0 + (k - m)) ≡ i = omega (arith, is) in
    get_or-append_right (chunk 0 m word) last m k 0 (length-chunk 0 m word (omega arith)) ge
    ∙ get_or-chunk 0 m (drop (length word - m) word) (k - m) 0 (omega arith)
    ∙ get_or-drop (length word - m) word (0 + (k - m)) 0
    ∙ ap (λ j. get_or word j 0) at

-- The pairs of the first 2 h and of the last 2 h bytes are all.
pub letters_by_ends : (h : ℕ) (word : List ℕ) → length word % 2 ≡ 0 → h + h ≤ length word → length word ≤ (h + h) + (h + h)
    → ((j : ℕ) → j < h + h → is_common_pair (get_or (ends_of_word (h + h) word) (j + j) 0) (get_or (ends_of_word (h + h) word) (j + j + 1) 0) ≡ true)
    → are_common_lowercase word ≡ true
letters_by_ends h word even least most each =
    let n : ℕ = length word / 2 in
    let long : length word ≡ n + n = omega arith in
    all_pairs n word long (λ i lt. elim (cases_lt i h) [
      | inl low ↦
          sym (ap (λ b. is_common_pair b (get_or (ends_of_word (h + h) word) (i + i + 1) 0)) (at_begin (h + h) word (i + i) least (omega arith))
          ∙ ap (λ b. is_common_pair (get_or word (i + i) 0) b) (at_begin (h + h) word (i + i + 1) least (omega arith))) ∙ each i (omega arith)
      | inr high ↦
          let j : ℕ = (i + (h + h)) - n in
          sym (ap (λ b. is_common_pair b (get_or (ends_of_word (h + h) word) (j + j + 1) 0)) (at_end (h + h) word (j + j) (i + i) least (omega arith) (omega arith) (omega arith))
          ∙ ap (λ b. is_common_pair (get_or word (i + i) 0) b) (at_end (h + h) word (j + j + 1) (i + i + 1) least (omega arith) (omega arith) (omega arith))) ∙ each j (omega arith)
    ])
