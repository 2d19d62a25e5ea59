-- One offer more.
use Rattle.std.proofs.Common.{◌≡◌, ℕ, ◌+◌, ◌≢◌, ◌==◌, max, Bool, true, false, cond, List, [], ◌∷◌, ◌++◌, map, filter, fold, sym, ap, ◌∙◌, zero-add}
use Rattle.std.proofs.lemmas.Bool.{eq-eqb, ne_eqb}
use Rattle.std.proofs.lemmas.Grind.{flat_map-append}
use Rattle.std.proofs.lemmas.List.{append-nil, append_assoc, map-append}
use Rattle.std.proofs.lemmas.List.FromFn.{map-range_with_len_more}
use Rattle.std.specs.List.{range_with_len}
use Rattle.std.proofs.lemmas.List.Elements.{filter-append}
use Rattle.std.proofs.lemmas.List.Sums.{fold-append}
use Rattle.hyphenation_breaks.specs.Ascii.{digit_zero}
use Rattle.libhyphen_rule.specs.Counting.{Counted}
use Rattle.libhyphen_rule.specs.OneLevel.{Offer, offer_of, offers_of, offers, digit_at}

-- An item more that passes a test, or does not.
pub filter_more : {X : Type 0} (test : X → Bool) (xs : List X) (x : X) → test x ≡ true → filter test (xs ++ x ∷ []) ≡ filter test xs ++ x ∷ []
filter_more {X} test xs x passes =
    filter-append test xs (x ∷ []) ∙ ap (λ b. filter test xs ++ cond {A = List X} b (x ∷ []) []) passes

pub filter_same : {X : Type 0} (test : X → Bool) (xs : List X) (x : X) → test x ≡ false → filter test (xs ++ x ∷ []) ≡ filter test xs
filter_same {X} test xs x fails =
    filter-append test xs (x ∷ []) ∙ ap (λ b. filter test xs ++ cond {A = List X} b (x ∷ []) []) fails ∙ append-nil (filter test xs)

-- The digit of the offer's place, and of each other one.
pub digit_raised : (given : List Offer) (o : Offer) (place : ℕ) → o.place ≡ place
    → digit_at (given ++ o ∷ []) place ≡ max (digit_at given place) o.digit
unfolding digit_at
digit_raised given o place is =
    let test : Offer → Bool = λ x. x.place == place in
    ap (λ xs. fold max digit_zero (map (λ x. x.digit) xs)) (filter_more test given o (eq-eqb o.place place is))
    ∙ ap (fold max digit_zero) (map-append (λ x. x.digit) (filter test given) (o ∷ []))
    ∙ fold-append max digit_zero (map (λ x. x.digit) (filter test given)) (o.digit ∷ [])

pub digit_kept : (given : List Offer) (o : Offer) (place : ℕ) → o.place ≢ place
    → digit_at (given ++ o ∷ []) place ≡ digit_at given place
unfolding digit_at
digit_kept given o place apart =
    let test : Offer → Bool = λ x. x.place == place in
    ap (λ xs. fold max digit_zero (map (λ x. x.digit) xs)) (filter_same test given o (ne_eqb o.place place apart))

-- One place more of a pattern.
pub pattern_offers_more : (given : List Offer) (c : Counted) (n : ℕ)
    → (given ++ map (offer_of c) (range_with_len 0 n)) ++ offer_of c n ∷ [] ≡ given ++ map (offer_of c) (range_with_len 0 (n + 1))
pattern_offers_more given c n =
    append_assoc given (map (offer_of c) (range_with_len 0 n)) (offer_of c n ∷ [])
    ∙ ap (λ xs. given ++ xs) (sym (map-range_with_len_more (offer_of c) 0 n n (zero-add n)))

-- One pattern more.
pub offers_more : (counted : List Counted) (c : Counted) → offers (counted ++ c ∷ []) ≡ offers counted ++ offers_of c
unfolding offers
offers_more counted c = flat_map-append offers_of counted (c ∷ []) ∙ ap (λ xs. offers counted ++ xs) (append-nil (offers_of c))
