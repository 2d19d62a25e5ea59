-- The shifts of a folding, and the growth that the last shift below a place states.
use Rattle.std.proofs.Common.{◌≡◌, ℕ, ◌+◌, ◌-◌, ◌<◌, ◌≤◌, ◌^◌, ◌==◌, true, false, cond, not, zero, suc, List, [], ◌∷◌, ◌++◌, length, map, filter, reverse, min, chars, Some, nat_lt, lt-ltb, le-ltb, ℤ, pos, ◌-ℤ◌, refl, sym, ap, subst, ◌∙◌, arith, add-one, add-zero}
use Rattle.std.proofs.lemmas.Bool.{cond-true, cond-false}
use Rattle.std.specs.Char.{encode_utf8}
use Rattle.std.specs.Int.{saturate_unsigned, w64}
use Rattle.std.specs.List.{slice_index, range_with_len, find}
use Rattle.std.specs.Option.{option_map_or}
use Rattle.std.specs.Str.{IsUtf8}
use Rattle.std.proofs.lemmas.Int.{ints}
use Rattle.std.proofs.lemmas.List.{get_or-map, append-nil, reverse-append}
use Rattle.hyphenation_hyphenator.specs.declared.case_folding.Shift.{Shift}
use Rattle.hyphenation_hyphenator.specs.Places.{place_of_character}
use Rattle.hyphenation_hyphenator.specs.Folding.{fold_character, fold_case, changes_length, shift_of, shifts_of, delta_below}
use Rattle.hyphenation_hyphenator.proofs.Places.{place_more, place_rises, place_keeps_order, place_within, same_place}
use Rattle.hyphenation_hyphenator.proofs.Folds.{chars_of_fold, as_many_characters}
use Rattle.hyphenation_hyphenator.proofs.NumberedCharacters.{picked_more}

-- One more shift counts where its index is below the place.
delta_below_more : (shifts : List Shift) (s : Shift) (place : ℕ) → delta_below (shifts ++ s ∷ []) place ≡ cond (nat_lt s.index place) s.delta (delta_below shifts place)
delta_below_more shifts s place =
    let others = find (λ (t : Shift). nat_lt t.index place) (reverse shifts) in
    ap (λ xs. option_map_or (λ (t : Shift). t.delta) (find (λ (t : Shift). nat_lt t.index place) xs) (pos 0)) (reverse-append shifts (s ∷ []))
    ∙ elim (nat_lt s.index place) as (λ b. option_map_or (λ (t : Shift). t.delta) (cond b (Some s) others) (pos 0) ≡ cond b s.delta (option_map_or (λ (t : Shift). t.delta) others (pos 0))) [ true ↦ refl | false ↦ refl ]

-- The shifts of the characters before number n.
abbrev pub shifts_before : List ℕ → ℕ → List Shift
shifts_before text n = map (shift_of text) (filter (changes_length text) (range_with_len 0 n))

-- The growth of the first j characters, in bytes.
abbrev pub growth : List ℕ → ℕ → ℤ
growth text j = pos (place_of_character (fold_case text) j) -ℤ pos (place_of_character text j)

one_more : (text : List ℕ) (n place : ℕ) → delta_below (shifts_before text (n + 1)) place ≡ cond (changes_length text n) (cond (nat_lt (place_of_character (fold_case text) n) place) (growth text (n + 1)) (delta_below (shifts_before text n) place)) (delta_below (shifts_before text n) place)
one_more text n place =
    ap (λ xs. delta_below xs place) (picked_more (shift_of text) (changes_length text) n)
    ∙ elim (changes_length text n) as (λ b. delta_below (shifts_before text n ++ cond b (shift_of text n ∷ []) []) place ≡ cond b (cond (nat_lt (place_of_character (fold_case text) n) place) (growth text (n + 1)) (delta_below (shifts_before text n) place)) (delta_below (shifts_before text n) place)) [
      | true ↦ delta_below_more (shifts_before text n) (shift_of text n) place
      | false ↦ ap (λ xs. delta_below xs place) (append-nil (shifts_before text n))
    ]

same_difference : (a b a' b' w : ℕ) → a' ≡ a + w → b' ≡ b + w → pos a' -ℤ pos b' ≡ pos a -ℤ pos b
same_difference a b a' b' w h k = omega (arith, ints)

pub equal_from_not : (a b : ℕ) → not (a == b) ≡ false → a ≡ b
equal_from_not a b h = grind (arith)

-- A character that keeps its length does not change the growth.
same_growth : (text : List ℕ) (n : ℕ) → IsUtf8 text → n < length (chars text) → changes_length text n ≡ false → growth text (n + 1) ≡ growth text n
same_growth text n u h e =
    let c = slice_index (chars text) n in
    let folded_c : slice_index (chars (fold_case text)) n ≡ fold_character c = ap (λ cs. slice_index cs n) (chars_of_fold text u) ∙ get_or-map fold_character (chars text) n 0 0 h in
    let wide : length (encode_utf8 (slice_index (chars (fold_case text)) n)) ≡ length (encode_utf8 c) = ap (λ d. length (encode_utf8 d)) folded_c ∙ equal_from_not _ _ e in
    let folded_more = place_more (fold_case text) n (omega (arith, as_many_characters text u)) in
    let more = place_more text n h in
    same_difference (place_of_character (fold_case text) n) (place_of_character text n) (place_of_character (fold_case text) (n + 1)) (place_of_character text (n + 1)) (length (encode_utf8 c)) (folded_more ∙ ap (λ w. place_of_character (fold_case text) n + w) wide) more

up_to : (text : List ℕ) (j n : ℕ) → IsUtf8 text → j ≤ length (chars text) → n ≤ j → delta_below (shifts_before text n) (place_of_character (fold_case text) j) ≡ growth text n
up_to text j zero u l h = refl
up_to text j (suc n) u l h =
    let place = place_of_character (fold_case text) j in
    let before : delta_below (shifts_before text n) place ≡ growth text n = up_to text j n u l (omega arith) in
    let below : nat_lt (place_of_character (fold_case text) n) place ≡ true = lt-ltb _ _ (place_rises (fold_case text) n j (omega arith) (omega (arith, as_many_characters text u))) in
    let step = one_more text n place in
    subst (λ k. delta_below (shifts_before text k) place ≡ growth text k) (add-one n) (elim (changes_length text n) as (λ b. changes_length text n ≡ b → delta_below (shifts_before text (n + 1)) place ≡ growth text (n + 1)) [
      | true ↦ λ e. step ∙ cond-true _ _ _ e ∙ cond-true _ _ _ below
      | false ↦ λ e. step ∙ cond-false _ _ _ e ∙ before ∙ sym (same_growth text n u (omega arith) e)
    ] refl)

beyond : (text : List ℕ) (j m : ℕ) → IsUtf8 text → j + m ≤ length (chars text) → delta_below (shifts_before text (j + m)) (place_of_character (fold_case text) j) ≡ growth text j
beyond text j zero u l = rw add-zero (up_to text j j u (omega arith) (omega arith))
beyond text j (suc m) u l =
    let place = place_of_character (fold_case text) j in
    let n = j + m in
    let before : delta_below (shifts_before text n) place ≡ growth text j = beyond text j m u (omega arith) in
    let above : nat_lt (place_of_character (fold_case text) n) place ≡ false = le-ltb _ _ (place_keeps_order (fold_case text) j n (omega arith) (omega (arith, as_many_characters text u))) in
    let step = one_more text n place in
    let e : n + 1 ≡ j + suc m = omega arith in
    subst (λ k. delta_below (shifts_before text k) place ≡ growth text j) e (elim (changes_length text n) as (λ b. changes_length text n ≡ b → delta_below (shifts_before text (n + 1)) place ≡ growth text j) [
      | true ↦ λ e. step ∙ cond-true _ _ _ e ∙ cond-false _ _ _ above ∙ before
      | false ↦ λ e. step ∙ cond-false _ _ _ e ∙ before
    ] refl)

-- The delta of the last shift below a place is the growth of the characters before it.
pub delta_is_growth : (text : List ℕ) (j : ℕ) → IsUtf8 text → j ≤ length (chars text) → delta_below (shifts_of text) (place_of_character (fold_case text) j) ≡ growth text j
delta_is_growth text j u l =
    let e : j + (length (chars text) - j) ≡ length (chars text) = omega arith in
    subst (λ n. delta_below (shifts_before text n) (place_of_character (fold_case text) j) ≡ growth text j) e (beyond text j (length (chars text) - j) u (omega arith))

-- A folded place less that growth, held between 0 and the greatest `usize`, is the place as written.
back : (p q : ℕ) (d : ℤ) → d ≡ pos p -ℤ pos q → q < 2 ^ 64 → saturate_unsigned w64 (pos p -ℤ d) ≡ q
back p q d e h =
    let whole : pos p -ℤ d ≡ pos q = omega (arith, ints) in
    ap (saturate_unsigned w64) whole ∙ omega arith

pub realigned : (text : List ℕ) (j : ℕ) → IsUtf8 text → length text < 2 ^ 64 → saturate_unsigned w64 (pos (place_of_character (fold_case text) j) -ℤ delta_below (shifts_of text) (place_of_character (fold_case text) j)) ≡ place_of_character text j
realigned text j u l =
    let n = length (chars text) in
    let k = min j n in
    let p = place_of_character (fold_case text) j in
    let folded : place_of_character (fold_case text) k ≡ p = ap (λ m. place_of_character (fold_case text) (min j m)) (sym (as_many_characters text u)) ∙ same_place (fold_case text) j in
    let grown = delta_is_growth text k u (omega arith) in
    let d : delta_below (shifts_of text) p ≡ pos p -ℤ pos (place_of_character text k) = subst (λ q. delta_below (shifts_of text) q ≡ pos q -ℤ pos (place_of_character text k)) folded grown in
    back p (place_of_character text k) (delta_below (shifts_of text) p) d (omega (arith, place_within text k u)) ∙ same_place text j

-- A folded place less that growth is the place carried back.
pub carried_back : (text : List ℕ) (j place result : ℕ) (shifts : List Shift) → IsUtf8 text → length text < 2 ^ 64 → shifts ≡ shifts_of text → place ≡ place_of_character (fold_case text) j → result ≡ saturate_unsigned w64 (pos place -ℤ delta_below shifts place) → result ≡ place_of_character text j
carried_back text j place result shifts u l e k v = v ∙ ap (λ s. saturate_unsigned w64 (pos place -ℤ delta_below s place)) e ∙ ap (λ p. saturate_unsigned w64 (pos p -ℤ delta_below (shifts_of text) p)) k ∙ realigned text j u l

-- There is no shift where no character changes its length.
pub no_shifts : (text : List ℕ) (n : ℕ) → ((j : ℕ) → j < n → changes_length text j ≡ false) → shifts_before text n ≡ []
no_shifts text zero h = refl
no_shifts text (suc n) h =
    let before : shifts_before text n ≡ [] = no_shifts text n (λ j l. h j (omega arith)) in
    subst (λ k. shifts_before text k ≡ []) (add-one n) (picked_more (shift_of text) (changes_length text) n ∙ ap (λ xs. xs ++ cond (changes_length text n) (shift_of text n ∷ []) []) before ∙ cond-false _ _ _ (h n (omega arith)))
