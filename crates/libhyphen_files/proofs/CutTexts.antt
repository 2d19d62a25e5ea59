-- A text that is cut at its first element that passes a test.
use Rattle.std.proofs.Common.{◌≡◌, ℕ, suc, ◌+◌, ◌<◌, ◌≤◌, Bool, true, false, List, [], ◌∷◌, length, take, drop, refl, Some, None, ap, ◌∙◌, arith, cond}
use Rattle.std.specs.Prelude.{position, not, ◌||◌}
use Rattle.std.specs.List.{list_any, position_or_len, slice_split, onto_first}
use Rattle.std.proofs.lemmas.List.Splits.{slice_split_first, length-slice_split}
use Rattle.std.proofs.lemmas.Grind.{common_steps}
use Rattle.libhyphen_files.specs.Patterns.{fields_of, text_of}

-- ---- No element passes.

pub position_or_len_none : {X : Type 0} (p : X → Bool) (xs : List X) → position p xs ≡ None
    → length xs ≤ position_or_len p xs
position_or_len_none p xs none = grind (arith, common_steps)

pub none_passes_from : {X : Type 0} (p : X → Bool) (xs : List X) → length xs ≤ position_or_len p xs → list_any p xs ≡ false
none_passes_from p [] h = refl
none_passes_from p (x ∷ xs) h = by (p x) h (none_passes_from p xs)
  where
    by : (b : Bool) → suc (length xs) ≤ cond (not b) (1 + position_or_len p xs) 0
        → (length xs ≤ position_or_len p xs → list_any p xs ≡ false) → (b || list_any p xs) ≡ false
    by true h rest = absurd (omega arith)
    by false h rest = rest (omega arith)

pub none_passes : {X : Type 0} (p : X → Bool) (xs : List X) → position p xs ≡ None → list_any p xs ≡ false
none_passes p xs none = none_passes_from p xs (position_or_len_none p xs none)

one_part_from : {X : Type 0} (p : X → Bool) (xs : List X) → length xs ≤ position_or_len p xs
    → slice_split p xs ≡ xs ∷ []
one_part_from p [] h = refl
one_part_from p (x ∷ xs) h = by (p x) h (one_part_from p xs)
  where
    by : (b : Bool) → suc (length xs) ≤ cond (not b) (1 + position_or_len p xs) 0
        → (length xs ≤ position_or_len p xs → slice_split p xs ≡ xs ∷ [])
        → cond b ([] ∷ slice_split p xs) (onto_first x (slice_split p xs)) ≡ (x ∷ xs) ∷ []
    by true h rest = absurd (omega arith)
    by false h rest = ap (onto_first x) (rest (omega arith))

pub one_part : {X : Type 0} (p : X → Bool) (xs : List X) → position p xs ≡ None → slice_split p xs ≡ xs ∷ []
one_part p xs none = one_part_from p xs (position_or_len_none p xs none)

-- ---- An element passes.

pub position_or_len_some : {X : Type 0} (p : X → Bool) (xs : List X) (at : ℕ) → position p xs ≡ Some at
    → (position_or_len p xs ≡ at) × (at < length xs)
position_or_len_some p xs at some = (grind (arith, common_steps), grind (arith, common_steps))

pub some_passes_from : {X : Type 0} (p : X → Bool) (xs : List X) → position_or_len p xs < length xs → list_any p xs ≡ true
some_passes_from p [] h = absurd (omega arith)
some_passes_from p (x ∷ xs) h = by (p x) h (some_passes_from p xs)
  where
    by : (b : Bool) → cond (not b) (1 + position_or_len p xs) 0 < suc (length xs)
        → (position_or_len p xs < length xs → list_any p xs ≡ true) → (b || list_any p xs) ≡ true
    by true h rest = refl
    by false h rest = rest (omega arith)

pub some_passes : {X : Type 0} (p : X → Bool) (xs : List X) (at : ℕ) → position p xs ≡ Some at → list_any p xs ≡ true
some_passes p xs at some = let h = position_or_len_some p xs at some in some_passes_from p xs (omega (arith, h.0, h.1))

pub parts_at : {X : Type 0} (p : X → Bool) (xs : List X) (d : X) (at : ℕ) → position p xs ≡ Some at
    → slice_split p xs ≡ take at xs ∷ slice_split p (drop (at + 1) xs)
parts_at p xs d at some =
    let h = position_or_len_some p xs at some in
    slice_split_first p xs d (omega (arith, h.0, h.1)) ∙ ap (λ n. take n xs ∷ slice_split p (drop (n + 1) xs)) h.0

-- ---- Texts between commas.

-- A text of which more follows a comma.
pub text_of_several : (text more : List ℕ) → text_of (text ∷ fields_of more) ≡ text
text_of_several text more = grind (arith, common_steps, length-slice_split)
