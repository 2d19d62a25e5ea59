-- Sorted shifts, and whether one lies between two places.
use Rattle.std.proofs.Common.{◌≡◌, ℕ, zero, suc, ◌<◌, ◌≤◌, ◌&&◌, Bool, true, false, cond, nat_le, nat_lt, le-leb, le-ltb, ltb-true, ltb-false, List, [], ◌∷◌, length, map, filter, chars, get_or, take, reverse, Some, None, ◌-◌, refl, sym, ap, subst, ◌∙◌, arith}
use Rattle.std.specs.List.{range_with_len, find, slice_get, AllWithin}
use Rattle.std.specs.List.Sorted.{IsNonDecreasingBy, IsPartitionPoint}
use Rattle.std.specs.Option.{option_or}
use Rattle.std.specs.Str.{IsUtf8}
use Rattle.std.proofs.Math.Bool.{and-false}
use Rattle.std.proofs.lemmas.Bool.{lt-leb, cond-true, cond-false}
use Rattle.std.proofs.lemmas.List.Kept.{IsNonDecreasingBy-filter}
use Rattle.std.proofs.lemmas.List.FromFn.{get_or-range_with_len, length-range_with_len}
use Rattle.std.proofs.lemmas.List.{get_or_default, get_or-map, length-map, reverse-append}
use Rattle.std.proofs.lemmas.List.Folds.{list_any_at, list_any_none, find-append}
use Rattle.std.proofs.lemmas.Option.{slice_get-get_or}
use Rattle.hyphenation_hyphenator.specs.declared.case_folding.Shift.{Shift}
use Rattle.hyphenation_hyphenator.specs.Private.Fitting.{holds_shift}
use Rattle.hyphenation_hyphenator.specs.Folding.{fold_case, changes_length, shift_of, shifts_of}
use Rattle.hyphenation_hyphenator.specs.Places.{place_of_character}
use Rattle.hyphenation_hyphenator.proofs.Folds.{as_many_characters}
use Rattle.hyphenation_hyphenator.proofs.Places.{place_keeps_order}

module _ (shifts : List Shift) (begin end at : ℕ) (point : IsPartitionPoint (λ (s : Shift). nat_lt s.index begin ≡ true) (λ (s : Shift). nat_lt s.index begin ≡ false) shifts at) where
  abbrev test : Shift → Bool
  test shift = nat_le begin shift.index && nat_lt shift.index end

  below : (k : ℕ) (d : Shift) → k < at → test (get_or shifts k d) ≡ false
  below k d h =
      let l : (get_or shifts k d).index < begin = ltb-true _ _ (point.0 k d (omega arith) h) in
      ap (λ t. t && nat_lt (get_or shifts k d).index end) (lt-leb _ _ l)

  -- The shift at the point is the first that can lie in the range.
  pub held_at : (shift : Shift) → at < length shifts → shift ≡ get_or shifts at shift → IsNonDecreasingBy (λ (s : Shift). s.index) shifts → nat_lt shift.index end ≡ holds_shift shifts begin end
  held_at shift h is order =
      let above : begin ≤ shift.index = subst (λ (s : Shift). begin ≤ s.index) (sym is) (ltb-false _ _ (point.1 at shift (omega arith) h)) in
      elim (nat_lt shift.index end) as (λ t. nat_lt shift.index end ≡ t → t ≡ holds_shift shifts begin end) [
        | true ↦ λ e. sym (list_any_at test shifts at shift h (subst (λ (s : Shift). test s ≡ true) is (ap (λ t. t && nat_lt shift.index end) (le-leb _ _ above) ∙ e)))
        | false ↦ λ e. sym (list_any_none test shifts (λ k d l.
            elim (nat_lt k at) as (λ t. nat_lt k at ≡ t → test (get_or shifts k d) ≡ false) [
              | true ↦ λ early. below k d (ltb-true _ _ early)
              | false ↦ λ late.
                  let past : shift.index ≤ (get_or shifts k d).index = subst (λ (s : Shift). s.index ≤ (get_or shifts k d).index) (sym (is ∙ get_or_default shifts at shift d h)) (order at k d (ltb-false _ _ late) l) in
                  let out : end ≤ shift.index = ltb-false _ _ e in
                  ap (λ t. nat_le begin (get_or shifts k d).index && t) (le-ltb _ _ (omega arith)) ∙ and-false _
            ] refl))
      ] refl

  pub held_nowhere : length shifts ≤ at → false ≡ holds_shift shifts begin end
  held_nowhere h = sym (list_any_none test shifts (λ k d l. below k d (omega arith)))

-- ---- the last element before a point

module _ {X : Type 0} (test : X → Bool) where
  reversed_more : (x : X) (xs : List X) → find test (reverse (x ∷ xs)) ≡ option_or (find test (reverse xs)) (cond (test x) (Some x) None)
  reversed_more x xs = ap (find test) (reverse-append (x ∷ []) xs) ∙ find-append test (reverse xs) (x ∷ [])

  none_passes : (xs : List X) → AllWithin (λ x. test x ≡ false) xs 0 (length xs) → find test (reverse xs) ≡ None
  none_passes [] fail = refl
  none_passes (x ∷ xs) fail =
      reversed_more x xs ∙ ap (λ found. option_or found (cond (test x) (Some x) None)) (none_passes xs (λ k d low high. fail (suc k) d (omega arith) (omega arith)))
      ∙ cond-false (test x) (Some x) None (fail 0 x (omega arith) (omega arith))

  last_of_more : (x : X) (xs : List X) → option_or (slice_get xs (length xs - 1)) (Some x) ≡ slice_get (x ∷ xs) (length (x ∷ xs) - 1)
  last_of_more x [] = refl
  last_of_more x (y ∷ ys) =
      let short : length (y ∷ ys) - 1 ≡ length ys = omega arith in
      let long : length (x ∷ y ∷ ys) - 1 ≡ suc (length ys) = omega arith in
      let is = slice_get-get_or (y ∷ ys) (length ys) y (omega arith) in
      ap (λ n. option_or (slice_get (y ∷ ys) n) (Some x)) short ∙ ap (λ o. option_or o (Some x)) is ∙ sym is ∙ ap (slice_get (x ∷ y ∷ ys)) (sym long)

  -- The last element before the point is the first from the end that passes, where exactly those before the point pass.
  pub last_before : (xs : List X) (at : ℕ) → IsPartitionPoint (λ x. test x ≡ true) (λ x. test x ≡ false) xs at → at ≤ length xs → slice_get (take at xs) (length (take at xs) - 1) ≡ find test (reverse xs)
  last_before xs zero point h = sym (none_passes xs point.1)
  last_before [] (suc at) point h = absurd (omega (arith, h))
  last_before (x ∷ xs) (suc at) point h =
      let rest = last_before xs at (λ k d low high. point.0 (suc k) d (omega arith) (omega arith), λ k d low high. point.1 (suc k) d (omega arith) (omega arith)) (omega (arith, h)) in
      sym (last_of_more x (take at xs)) ∙ ap (λ found. option_or found (Some x)) rest
      ∙ sym (reversed_more x xs ∙ ap (option_or (find test (reverse xs))) (cond-true (test x) (Some x) None (point.0 0 x (omega arith) (omega arith))))

-- ---- the shifts of a folding

mapped_in_order : {X : Type 0} (f : ℕ → X) (n : X → ℕ) (xs : List ℕ) → IsNonDecreasingBy (λ j. n (f j)) xs → IsNonDecreasingBy n (map f xs)
mapped_in_order f n xs order = λ i j d h l.
    let j_in : j < length xs = omega (arith, length-map xs f) in
    let at_i = ap n (get_or-map f xs i (get_or xs i 0) d (omega arith)) in
    let at_j = ap n (get_or-map f xs j (get_or xs i 0) d j_in) in
    let same = ap (λ k. n (f k)) (get_or_default xs i (get_or xs i 0) (get_or xs i 0) (omega arith)) in
    let o = order i j (get_or xs i 0) h j_in in omega arith

row_in_order : (g : ℕ → ℕ) (n : ℕ) → ((i j : ℕ) → i ≤ j → j < n → g i ≤ g j) → IsNonDecreasingBy g (range_with_len 0 n)
row_in_order g n rises = λ i j d h l.
    let j_in : j < n = omega (arith, length-range_with_len 0 n) in
    let at_i : g (get_or (range_with_len 0 n) i d) ≡ g i = ap g (get_or-range_with_len 0 n i d (omega arith) ∙ omega arith) in
    let at_j : g (get_or (range_with_len 0 n) j d) ≡ g j = ap g (get_or-range_with_len 0 n j d j_in ∙ omega arith) in
    let o = rises i j h j_in in omega arith

-- The shifts of a folding are sorted.
pub shifts_in_order : (word : List ℕ) → IsUtf8 word → IsNonDecreasingBy (λ (s : Shift). s.index) (shifts_of word)
shifts_in_order word u =
    let n = length (chars word) in
    mapped_in_order (shift_of word) (λ s. s.index) (filter (changes_length word) (range_with_len 0 n))
    (IsNonDecreasingBy-filter (λ j. place_of_character (fold_case word) j) (changes_length word) (range_with_len 0 n)
    (row_in_order (λ j. place_of_character (fold_case word) j) n (λ i j h l. place_keeps_order (fold_case word) i j h (omega (arith, as_many_characters word u)))))
