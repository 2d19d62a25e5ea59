-- The fronts of a tag, gone through from the longest to the shortest.
use Rattle.std.proofs.Common.{◌≡◌, ◌≢◌, ℕ, ◌+◌, ◌==◌, Bool, true, false, List, [], ◌∷◌, ◌++◌, map, take, reverse, cond, ap, sym, ◌∙◌, arith, append_assoc, append-nil}
use Rattle.std.specs.List.{filter, range_with_len, slice_index}
use Rattle.std.proofs.lemmas.Bool.{eq-eqb, eqb-true, false_from_ne_true}
use Rattle.std.proofs.lemmas.List.{map-id, reverse-append}
use Rattle.std.proofs.lemmas.List.Elements.{filter-append}
use Rattle.std.proofs.lemmas.List.FromFn.{filter_of_map_range_with_len_more}
use Rattle.hyphenation_breaks.specs.Ascii.{hyphen}
use Rattle.hyphenation_breaks.specs.Language.{is_code}
use Rattle.language_search.specs.Private.Fronts.{fronts_before, codes_before, PassesPlace}

places_more : (p : ℕ → Bool) (n : ℕ) → filter p (range_with_len 0 (n + 1)) ≡ filter p (range_with_len 0 n) ++ cond (p n) (n ∷ []) []
places_more p n =
    let zero : 0 + n ≡ n = omega arith in
    ap (filter p) (sym (map-id (range_with_len 0 (n + 1)))) ∙ filter_of_map_range_with_len_more p (λ x. x) 0 n n zero
    ∙ ap (λ xs. filter p xs ++ cond (p n) (n ∷ []) []) (map-id (range_with_len 0 n))

places_with : (p : ℕ → Bool) (n : ℕ) → p n ≡ true → reverse (filter p (range_with_len 0 (n + 1))) ≡ n ∷ reverse (filter p (range_with_len 0 n))
places_with p n h =
    ap reverse (places_more p n) ∙ ap (λ b. reverse (filter p (range_with_len 0 n) ++ cond b (n ∷ []) [])) h
    ∙ reverse-append (filter p (range_with_len 0 n)) (n ∷ [])

places_without : (p : ℕ → Bool) (n : ℕ) → p n ≡ false → reverse (filter p (range_with_len 0 (n + 1))) ≡ reverse (filter p (range_with_len 0 n))
places_without p n h =
    ap reverse (places_more p n) ∙ ap (λ b. reverse (filter p (range_with_len 0 n) ++ cond b (n ∷ []) [])) h
    ∙ ap reverse (append-nil (filter p (range_with_len 0 n)))

abbrev fronts_at : List ℕ → List ℕ → List (List ℕ)
fronts_at tag places = map (λ place. take place tag) places

pub before_hyphen : (tag : List ℕ) (n : ℕ) → slice_index tag n ≡ hyphen → fronts_before tag (n + 1) ≡ take n tag ∷ fronts_before tag n
before_hyphen tag n h = ap (fronts_at tag) (places_with (λ place. slice_index tag place == hyphen) n (eq-eqb (slice_index tag n) hyphen h))

pub before_other : (tag : List ℕ) (n : ℕ) → slice_index tag n ≢ hyphen → fronts_before tag (n + 1) ≡ fronts_before tag n
before_other tag n h =
    ap (fronts_at tag)
    (places_without (λ place. slice_index tag place == hyphen) n (false_from_ne_true (slice_index tag n == hyphen) (λ e. h (eqb-true (slice_index tag n) hyphen e))))

pub place_with_hyphen : (tag : List ℕ) (n : ℕ) (old new : List (List ℕ)) → slice_index tag n ≡ hyphen → new ≡ old ++ filter is_code (take n tag ∷ [])
    → PassesPlace tag n old new
place_with_hyphen tag n old new h added =
    let front = filter is_code (take n tag ∷ []) in
    ap (λ xs. xs ++ codes_before tag n) added ∙ append_assoc old front (codes_before tag n)
    ∙ ap (λ xs. old ++ xs) (sym (filter-append is_code (take n tag ∷ []) (fronts_before tag n)))
    ∙ ap (λ xs. old ++ filter is_code xs) (sym (before_hyphen tag n h))

pub place_without_hyphen : (tag : List ℕ) (n : ℕ) (old : List (List ℕ)) → slice_index tag n ≢ hyphen → PassesPlace tag n old old
place_without_hyphen tag n old h = ap (λ xs. old ++ filter is_code xs) (sym (before_other tag n h))
