-- Texts between commas, byte by byte.
use Rattle.std.proofs.Common.{◌≡◌, ◌≢◌, ◌∙◌, ◌==◌, ◌++◌, ◌+◌, ◌<◌, ◌≤◌, ap, sym, refl, ℕ, Bool, true, false, cond, List, [], ◌∷◌, nat_lt, length, take, drop, get_or, filter, arith}
use Rattle.std.proofs.lemmas.List.{drop_all, drop_more}
use Rattle.std.specs.List.{slice_split, onto_first}
use Rattle.hyphenation_breaks.specs.Ascii.{comma}
use Rattle.libhyphen_files.specs.Levels.{between_commas}
use Rattle.libhyphen_files.proofs.Cuts.{cut, cut_more, cut_none, cut_all}

-- The texts between the commas of the bytes that are left, where the first text has begun.
unfoldable pub parts_from : List ℕ → List ℕ → List (List ℕ)
parts_from part [] = part ∷ []
parts_from part (b ∷ bs) = cond (b == comma) (part ∷ parts_from [] bs) (parts_from (part ++ b ∷ []) bs)

abbrev pub not_empty : List ℕ → Bool
not_empty part = nat_lt 0 (length part)

parts_from-cons : (x : ℕ) (part bs : List ℕ) → parts_from (x ∷ part) bs ≡ onto_first x (parts_from part bs)
unfolding parts_from
parts_from-cons x part [] = refl
parts_from-cons x part (b ∷ bs) = by (b == comma) (parts_from-cons x (part ++ b ∷ []) bs)
  where
    by : (t : Bool) → parts_from (x ∷ (part ++ b ∷ [])) bs ≡ onto_first x (parts_from (part ++ b ∷ []) bs) → cond t ((x ∷ part) ∷ parts_from [] bs) (parts_from (x ∷ (part ++ b ∷ [])) bs) ≡ onto_first x (cond t (part ∷ parts_from [] bs) (parts_from (part ++ b ∷ []) bs))
    by true later = refl
    by false later = later

parts_from-split : (bs : List ℕ) → parts_from [] bs ≡ slice_split (λ c. c == comma) bs
unfolding parts_from
parts_from-split [] = refl
parts_from-split (b ∷ bs) = by (b == comma) (parts_from-split bs)
  where
    by : (t : Bool) → parts_from [] bs ≡ slice_split (λ c. c == comma) bs → cond t ([] ∷ parts_from [] bs) (parts_from (b ∷ []) bs) ≡ cond t ([] ∷ slice_split (λ c. c == comma) bs) (onto_first b (slice_split (λ c. c == comma) bs))
    by true later = ap (λ parts. [] ∷ parts) later
    by false later = parts_from-cons b [] bs ∙ ap (onto_first b) later

-- As the loop begins.
pub parts_of_text : (text : List ℕ) → filter not_empty (parts_from (take 1 text) (drop 1 text)) ≡ filter not_empty (between_commas text)
unfolding parts_from
parts_of_text [] = refl
parts_of_text (b ∷ bs) = ap (filter not_empty) (parts_from-cons b [] bs ∙ ap (onto_first b) (parts_from-split bs))

at_comma : (part bs : List ℕ) (b : ℕ) → b == comma ≡ true → parts_from part (b ∷ bs) ≡ part ∷ parts_from [] bs
unfolding parts_from
at_comma part bs b e = rw e refl

at_other : (part bs : List ℕ) (b : ℕ) → b == comma ≡ false → parts_from part (b ∷ bs) ≡ parts_from (part ++ b ∷ []) bs
unfolding parts_from
at_other part bs b e = rw e refl

at_end : (part : List ℕ) → parts_from part [] ≡ part ∷ []
unfolding parts_from
at_end part = refl

is_comma : (b : ℕ) → b ≡ comma → b == comma ≡ true
is_comma b e = grind arith

no_comma : (b : ℕ) → b ≢ comma → b == comma ≡ false
no_comma b e = grind arith

-- One more byte, by whether it is a comma.
pub parts_end : (text : List ℕ) (start i : ℕ) → i < length text → get_or text i 0 ≡ comma
    → parts_from (cut text start i) (drop i text) ≡ cut text start i ∷ parts_from (cut text (i + 1) (i + 1)) (drop (i + 1) text)
parts_end text start i inside e =
    rw (drop_more text i 0 inside) (at_comma _ _ _ (is_comma _ e) ∙ ap (λ part. cut text start i ∷ parts_from part (drop (i + 1) text)) (sym (cut_none text (i + 1))))

pub parts_go_on : (text : List ℕ) (start i : ℕ) → start ≤ i → i < length text → get_or text i 0 ≢ comma
    → parts_from (cut text start i) (drop i text) ≡ parts_from (cut text start (i + 1)) (drop (i + 1) text)
parts_go_on text start i begun inside e =
    rw (drop_more text i 0 inside) (at_other _ _ _ (no_comma _ e) ∙ ap (λ part. parts_from part (drop (i + 1) text)) (sym (cut_more text start i begun inside)))

-- As the loop ends.
pub parts_at_end : (text : List ℕ) (start i : ℕ) → length text ≤ i → parts_from (cut text start i) (drop i text) ≡ cut text start (length text) ∷ []
parts_at_end text start i over = rw (drop_all i text over) (at_end _ ∙ ap (λ part. part ∷ []) (cut_all text start i over ∙ sym (cut_all text start (length text) (omega arith))))
