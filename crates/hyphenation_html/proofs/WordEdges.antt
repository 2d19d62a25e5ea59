-- The first and the last byte of a text, before and after marks are put in.
use Rattle.std.proofs.Common.{◌≡◌, ℕ, ◌-◌, Bool, true, false, List, [], ◌∷◌, ◌++◌, length, take, drop, slice_get, suc, zero, refl, ap, sym, ◌∙◌, arith}
use Rattle.std.specs.Option.{option_map_or}
use Rattle.std.proofs.lemmas.List.{take-append-drop}
use Rattle.hyphenation_segments.specs.Laws.{with_marks}
use Rattle.hyphenation_text.specs.Laws.{soft_hyphen}
use Rattle.hyphenation_html.specs.Touching.{begins_in_word, ends_in_word}
use Rattle.text_words.specs.Names.{is_of_word}

-- The last byte is of a word, where `last` says so of what is before the text.
ends_after : Bool → List ℕ → Bool
ends_after last [] = last
ends_after last (b ∷ bs) = ends_after (is_of_word b) bs

last_is : (c : Bool) (b : ℕ) (bs : List ℕ) → ends_after c (b ∷ bs) ≡ option_map_or is_of_word (slice_get (b ∷ bs) (length bs)) false
unfolding ends_after
last_is c b [] = refl
last_is c b (b' ∷ bs) = last_is (is_of_word b) b' bs

ends_by_last : (text : List ℕ) → ends_after false text ≡ ends_in_word text
unfolding ends_after
ends_by_last [] = refl
ends_by_last (b ∷ bs) =
    let at : length bs ≡ length (b ∷ bs) - 1 = omega arith in
    last_is false b bs ∙ ap (λ n. option_map_or is_of_word (slice_get (b ∷ bs) n) false) at

ends-append : (c : Bool) (xs ys : List ℕ) → ends_after c (xs ++ ys) ≡ ends_after (ends_after c xs) ys
unfolding ends_after
ends-append c [] ys = refl
ends-append c (x ∷ xs) ys = ends-append (is_of_word x) xs ys

ends_as_well : (c : Bool) (ys : List ℕ) → ends_after c ys ≡ true → ends_after true ys ≡ true
unfolding ends_after
ends_as_well c [] e = refl
ends_as_well c (y ∷ ys) e = e

ends_with_marks : (text places : List ℕ) → ends_after false text ≡ true → ends_after false (with_marks soft_hyphen text places) ≡ true
unfolding ends_after
ends_with_marks text [] e = e
ends_with_marks text (p ∷ ps) e =
    let rest = with_marks soft_hyphen text ps in
    let later : ends_after (ends_after false (take p rest)) (drop p rest) ≡ true =
    sym (ends-append false (take p rest) (drop p rest)) ∙ ap (ends_after false) (take-append-drop p rest) ∙ ends_with_marks text ps e in
    ends-append false (take p text ++ soft_hyphen) (drop p rest)
    ∙ ap (λ c. ends_after c (drop p rest)) (ends-append false (take p text) soft_hyphen)
    ∙ ends_as_well (ends_after false (take p rest)) (drop p rest) later

-- A text that ends in a word ends in one with its soft hyphens.
pub still_ends : (text places : List ℕ) → ends_in_word text ≡ true → ends_in_word (with_marks soft_hyphen text places) ≡ true
still_ends text places e = sym (ends_by_last (with_marks soft_hyphen text places)) ∙ ends_with_marks text places (ends_by_last text ∙ e)

-- A text that begins in a word begins in one with its soft hyphens.
pub still_begins : (text places : List ℕ) → begins_in_word text ≡ true → begins_in_word (with_marks soft_hyphen text places) ≡ true
still_begins text [] e = e
still_begins [] (p ∷ ps) e = absurd (cc e)
still_begins (b ∷ bs) (zero ∷ ps) e = refl
still_begins (b ∷ bs) (suc p ∷ ps) e = e
