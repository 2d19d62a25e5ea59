-- One offer more: who decides of a place, and of a region.
use Rattle.std.proofs.Common.{◌≡◌, ℕ, ◌<◌, ◌≤◌, ◌≢◌, ◌==◌, nat_lt, Bool, true, false, cond, List, [], ◌∷◌, ◌++◌, filter, Option, Some, None, refl, sym, ap, ◌∙◌}
use Rattle.std.specs.Prelude.{option_and_then, option_map}
use Rattle.std.specs.List.{last_or}
use Rattle.std.proofs.lemmas.Bool.{eq-eqb, ne_eqb, lt-ltb, le-ltb}
use Rattle.std.proofs.lemmas.List.{append-nil, append_assoc}
use Rattle.libhyphen_rule.specs.Counting.{Counted}
use Rattle.libhyphen_rule.specs.OneLevel.{Offer, digit_at, is_odd, raisers, deciders, change_at, reaches, if_change, place_of_region, has_region, cut_of_region, cut_or_zero}
use Rattle.libhyphen_rule.proofs.Offers.{filter_more, filter_same}

pub last_more : {X : Type 0} (o : Option X) (xs : List X) (x : X) → last_or o (xs ++ x ∷ []) ≡ Some x
last_more o [] x = refl
last_more o (y ∷ xs) x = last_more (Some y) xs x

-- An offer raises its place, or it does not.
raisers_more : (seen given : List Offer) (o : Offer) (raises : Bool) → nat_lt (digit_at (seen ++ given) o.place) o.digit ≡ raises
    → raisers seen (given ++ o ∷ []) ≡ raisers seen given ++ cond {A = List Offer} raises (o ∷ []) []
unfolding raisers
raisers_more seen [] o raises is =
    let test : nat_lt (digit_at seen o.place) o.digit ≡ raises = ap (λ (xs : List Offer). nat_lt (digit_at xs o.place) o.digit) (sym (append-nil seen)) ∙ is in
    ap (λ b. cond {A = List Offer} b (o ∷ []) []) test
raisers_more seen (x ∷ xs) o raises is =
    let rest = raisers_more (seen ++ x ∷ []) xs o raises
    (ap (λ (ys : List Offer). nat_lt (digit_at ys o.place) o.digit) (append_assoc seen (x ∷ []) xs) ∙ is) in
    let tail : List Offer = cond {A = List Offer} raises (o ∷ []) [] in
    let R : List Offer = raisers (seen ++ x ∷ []) xs in
    let b : Bool = nat_lt (digit_at seen x.place) x.digit in
    ap (λ ys. cond {A = List Offer} b (x ∷ ys) ys) rest
    ∙ (elim b as (λ v. cond {A = List Offer} v (x ∷ (R ++ tail)) (R ++ tail) ≡ cond {A = List Offer} v (x ∷ R) R ++ tail) [ true ↦ refl | false ↦ refl ])

pub deciders_with : (given : List Offer) (o : Offer) → digit_at given o.place < o.digit → is_odd o.digit ≡ true
    → deciders (given ++ o ∷ []) ≡ deciders given ++ o ∷ []
unfolding deciders
deciders_with given o raises odd =
    ap (filter (λ x. is_odd x.digit)) (raisers_more [] given o true (lt-ltb (digit_at given o.place) o.digit raises))
    ∙ filter_more (λ x. is_odd x.digit) (raisers [] given) o odd

pub deciders_even : (given : List Offer) (o : Offer) → digit_at given o.place < o.digit → is_odd o.digit ≡ false
    → deciders (given ++ o ∷ []) ≡ deciders given
unfolding deciders
deciders_even given o raises even =
    ap (filter (λ x. is_odd x.digit)) (raisers_more [] given o true (lt-ltb (digit_at given o.place) o.digit raises))
    ∙ filter_same (λ x. is_odd x.digit) (raisers [] given) o even

pub deciders_low : (given : List Offer) (o : Offer) → o.digit ≤ digit_at given o.place → deciders (given ++ o ∷ []) ≡ deciders given
unfolding deciders
deciders_low given o low =
    ap (filter (λ x. is_odd x.digit)) (raisers_more [] given o false (le-ltb (digit_at given o.place) o.digit low) ∙ append-nil (raisers [] given))

-- Where the deciders are the same, the changes and the places are.
pub change_same : (given more : List Offer) (place : ℕ) → deciders more ≡ deciders given → change_at more place ≡ change_at given place
change_same given more place same =
    ap (λ xs. option_and_then (λ o. o.change) (last_or None (filter (λ o. o.place == place) xs))) same

pub region_same : (given more : List Offer) (begin : ℕ) → deciders more ≡ deciders given → place_of_region more begin ≡ place_of_region given begin
region_same given more begin same =
    ap (λ xs. option_map (λ o. o.place) (last_or None (filter (λ o. if_change (reaches begin o.place o.first) o.change) xs))) same

-- Where one more decides.
module _ (given : List Offer) (o : Offer) (more : deciders (given ++ o ∷ []) ≡ deciders given ++ o ∷ []) where
  pub change_new : change_at (given ++ o ∷ []) o.place ≡ o.change
  change_new =
      let test : Offer → Bool = λ x. x.place == o.place in
      ap (λ xs. option_and_then (λ x. x.change) (last_or None (filter test xs))) more
      ∙ ap (λ xs. option_and_then (λ x. x.change) (last_or None xs)) (filter_more test (deciders given) o (eq-eqb o.place o.place refl))
      ∙ ap (option_and_then (λ x. x.change)) (last_more None (filter test (deciders given)) o)

  pub change_kept : (place : ℕ) → o.place ≢ place → change_at (given ++ o ∷ []) place ≡ change_at given place
  change_kept place apart =
      let test : Offer → Bool = λ x. x.place == place in
      ap (λ xs. option_and_then (λ x. x.change) (last_or None (filter test xs))) more
      ∙ ap (λ xs. option_and_then (λ x. x.change) (last_or None xs)) (filter_same test (deciders given) o (ne_eqb o.place place apart))

  pub region_new : (begin : ℕ) → if_change (reaches begin o.place o.first) o.change ≡ true → place_of_region (given ++ o ∷ []) begin ≡ Some o.place
  region_new begin there =
      let test : Offer → Bool = λ x. if_change (reaches begin x.place x.first) x.change in
      ap (λ xs. option_map (λ x. x.place) (last_or None (filter test xs))) more
      ∙ ap (λ xs. option_map (λ x. x.place) (last_or None xs)) (filter_more test (deciders given) o there)
      ∙ ap (option_map (λ x. x.place)) (last_more None (filter test (deciders given)) o)

  pub region_kept : (begin : ℕ) → if_change (reaches begin o.place o.first) o.change ≡ false
      → place_of_region (given ++ o ∷ []) begin ≡ place_of_region given begin
  region_kept begin elsewhere =
      let test : Offer → Bool = λ x. if_change (reaches begin x.place x.first) x.change in
      ap (λ xs. option_map (λ x. x.place) (last_or None (filter test xs))) more
      ∙ ap (λ xs. option_map (λ x. x.place) (last_or None xs)) (filter_same test (deciders given) o elsewhere)

-- The cut of a region, with one pattern more.
pub cut_new : (counted : List Counted) (c : Counted) (begin : ℕ) → has_region begin c ≡ true → cut_of_region (counted ++ c ∷ []) begin ≡ cut_or_zero c.change
cut_new counted c begin there =
    ap (λ xs. cut_or_zero (option_and_then (λ x. x.change) (last_or None xs))) (filter_more (has_region begin) counted c there)
    ∙ ap (λ o. cut_or_zero (option_and_then (λ x. x.change) o)) (last_more None (filter (has_region begin) counted) c)

pub cut_kept : (counted : List Counted) (c : Counted) (begin : ℕ) → has_region begin c ≡ false → cut_of_region (counted ++ c ∷ []) begin ≡ cut_of_region counted begin
cut_kept counted c begin elsewhere =
    ap (λ xs. cut_or_zero (option_and_then (λ x. x.change) (last_or None xs))) (filter_same (has_region begin) counted c elsewhere)
