-- Places at which no break may be: they have the digit 0.
use Rattle.std.proofs.Common.{◌≡◌, ℕ, ℤ, ◌⊎◌, inl, inr, ◌<◌, ◌≤◌, Bool, true, false, cond, List, length, take, drop, get_or, Option, None, Some, refl, sym, ap, ◌∙◌, arith, zero-add}
use Rattle.std.specs.Prelude.{◌||◌}
use Rattle.std.specs.List.{list_any}
use Rattle.std.proofs.lemmas.Bool.{cases_Bool, cases_lt, or_cases}
use Rattle.std.proofs.lemmas.Grind.{common_steps}
use Rattle.std.proofs.lemmas.List.FromFn.{length-map-range_with_len, get_or-map-range_with_len}
use Rattle.hyphenation_breaks.specs.Ascii.{digit_zero}
use Rattle.libhyphen_files.specs.Bytes.{before_nul}
use Rattle.libhyphen_files.specs.Files.{Rules}
use Rattle.libhyphen_rule.specs.declared.calls.CallMinima.{CallMinima}
use Rattle.libhyphen_rule.specs.Calls.{at_least_two, digits_by_no_hyphen, found_by_call, least_of, no_hyphen_digit, part_minima}
use Rattle.libhyphen_rule.specs.Laws.{ForbiddenPlacesAreEven, is_beside_some}
use Rattle.libhyphen_rule.specs.Minima.{changes_but, digits_but, is_short_after, is_short_before, left_goes, right_goes}
use Rattle.libhyphen_rule.specs.OneLevel.{ChangeAt, is_odd}
use Rattle.libhyphen_rule.specs.Parts.{Found, word_found}
use Rattle.libhyphen_rule.specs.Words.{digits_beside, is_beside}
use Rattle.libhyphen_rule.proofs.Short.{goes_left_none, goes_right_none}

past_none : (changes : List (Option ChangeAt)) (k : ℕ) → length changes ≤ k → get_or changes k None ≡ None
past_none changes k le = grind (arith, common_steps)

-- A place without a change was taken away, or had none.
no_change_left : (goes : ℕ → Bool) (changes : List (Option ChangeAt)) (k : ℕ) → get_or (changes_but goes changes) k None ≡ None
    → (goes k ≡ true) ⊎ (get_or changes k None ≡ None)
no_change_left goes changes k none = elim (cases_lt k (length changes)) [
  | inr le ↦ inr (past_none changes k le)
  | inl lt ↦
      let is : cond (goes k) None (get_or changes k None) ≡ None =
      sym (get_or-map-range_with_len (λ byte. cond (goes byte) None (get_or changes byte None)) 0 (length changes) k k None lt (zero-add k)) ∙ none in
      elim (cases_Bool (goes k)) [
        | inl gone ↦ inl gone
        | inr stays ↦ inr (sym (ap (λ b. cond b None (get_or changes k None)) stays) ∙ is)
      ]
]

pub digits_but-length : (goes : ℕ → Bool) (digits : List ℕ) → length (digits_but goes digits) ≡ length digits
digits_but-length goes digits = length-map-range_with_len (λ byte. cond (goes byte) digit_zero (get_or digits byte 0)) 0 (length digits)

pub digits_but-at : (goes : ℕ → Bool) (digits : List ℕ) (k : ℕ) → k < length digits
    → get_or (digits_but goes digits) k 0 ≡ cond (goes k) digit_zero (get_or digits k 0)
digits_but-at goes digits k lt =
    get_or-map-range_with_len (λ byte. cond (goes byte) digit_zero (get_or digits byte 0)) 0 (length digits) k k 0 lt (zero-add k)

zero_gone : (goes : ℕ → Bool) (digits : List ℕ) (k : ℕ) → k < length digits → goes k ≡ true → get_or (digits_but goes digits) k 0 ≡ digit_zero
zero_gone goes digits k lt gone = digits_but-at goes digits k lt ∙ ap (λ b. cond b digit_zero (get_or digits k 0)) gone

-- A digit 0 stays.
pub zero_stays : (goes : ℕ → Bool) (digits : List ℕ) (k : ℕ) → k < length digits → get_or digits k 0 ≡ digit_zero
    → get_or (digits_but goes digits) k 0 ≡ digit_zero
zero_stays goes digits k lt zero_is =
    digits_but-at goes digits k lt ∙ ap (cond (goes k) digit_zero) zero_is
    ∙ (elim (goes k) as (λ b. cond b digit_zero digit_zero ≡ digit_zero) [ true ↦ refl | false ↦ refl ])

module _ (utf8 : Bool) (left right : ℤ) (word text digits : List ℕ) (changes : List (Option ChangeAt)) where
  near_zero : (k : ℕ) → k < length (digits_but (right_goes utf8 right word text (changes_but (left_goes utf8 left text changes) changes)) (digits_but (left_goes utf8 left text changes) digits))
      → (is_short_before utf8 left text k || is_short_after utf8 right word k) ≡ true
      → get_or (changes_but (right_goes utf8 right word text (changes_but (left_goes utf8 left text changes) changes)) (changes_but (left_goes utf8 left text changes) changes)) k None ≡ None
      → get_or (digits_but (right_goes utf8 right word text (changes_but (left_goes utf8 left text changes) changes)) (digits_but (left_goes utf8 left text changes) digits)) k 0 ≡ digit_zero
  near_zero k lt near none =
      let goes_l : ℕ → Bool = left_goes utf8 left text changes in
      let digits_l : List ℕ = digits_but goes_l digits in
      let changes_l : List (Option ChangeAt) = changes_but goes_l changes in
      let goes_r : ℕ → Bool = right_goes utf8 right word text changes_l in
      let long_r = digits_but-length goes_r digits_l in
      let long_l = digits_but-length goes_l digits in
      let in_l : k < length digits_l = omega (arith, lt, long_r) in
      let in_d : k < length digits = omega (arith, lt, long_r, long_l) in
      elim (no_change_left goes_r changes_l k none) [
        | inl gone ↦ zero_gone goes_r digits_l k in_l gone
        | inr none_l ↦ elim (or_cases (is_short_before utf8 left text k) (is_short_after utf8 right word k) near) [
          | inr short ↦ zero_gone goes_r digits_l k in_l (goes_right_none utf8 right word text k (get_or changes_l k None) none_l short)
          | inl short ↦ zero_stays goes_r digits_l k in_l (elim (no_change_left goes_l changes k none_l) [
            | inl gone ↦ zero_gone goes_l digits k in_d gone
            | inr none_d ↦ zero_gone goes_l digits k in_d (goes_left_none utf8 left text k (get_or changes k None) none_d short)
          ])
        ]
      ]

-- ---- Beside texts without breaks.

kept_at : (parts : List (List ℕ)) (instead : ℕ) (text digits : List ℕ) (k : ℕ) → k < length digits
    → get_or (digits_beside parts instead text digits) k 0 ≡ cond (list_any (is_beside text k) parts) instead (get_or digits k 0)
kept_at parts instead text digits k lt =
    get_or-map-range_with_len (λ byte. cond (list_any (is_beside text byte) parts) instead (get_or digits byte 0)) 0 (length digits) k k 0 lt (zero-add k)

taken_even : (given : Option CallMinima) → is_odd (no_hyphen_digit given) ≡ false
taken_even None = refl
taken_even (Some least) = refl

zero_even : (given : Option CallMinima) (b : Bool) → is_odd (cond b (no_hyphen_digit given) digit_zero) ≡ false
zero_even given true = taken_even given
zero_even given false = refl

kept_beside : (rules : Rules) (given : Option CallMinima) (text digits : List ℕ) (k : ℕ) → k < length digits → is_beside_some rules text k ≡ true
    → get_or (digits_by_no_hyphen rules given text digits) k 0 ≡ no_hyphen_digit given
kept_beside rules given text digits k lt is =
    kept_at rules.first_level.no_hyphen (no_hyphen_digit given) (before_nul text) digits k lt ∙ ap (λ b. cond b (no_hyphen_digit given) (get_or digits k 0)) is

kept_zero : (rules : Rules) (given : Option CallMinima) (text digits : List ℕ) (k : ℕ) → k < length digits → get_or digits k 0 ≡ digit_zero
    → is_odd (get_or (digits_by_no_hyphen rules given text digits) k 0) ≡ false
kept_zero rules given text digits k lt is =
    ap is_odd (kept_at rules.first_level.no_hyphen (no_hyphen_digit given) (before_nul text) digits k lt
    ∙ ap (cond (is_beside_some rules text k) (no_hyphen_digit given)) is)
    ∙ zero_even given (is_beside_some rules text k)

found_near : (rules : Rules) (given : Option CallMinima) (text : List ℕ) (size byte : ℕ) → byte < length (found_by_call rules given text size).digits
    → (is_short_before rules.utf8 (at_least_two (least_of rules.first_level.minima given).left) (before_nul text) byte
    || is_short_after rules.utf8 (at_least_two (least_of rules.first_level.minima given).right) (take size text) byte) ≡ true
    → get_or (found_by_call rules given text size).changes byte None ≡ None
    → get_or (found_by_call rules given text size).digits byte 0 ≡ digit_zero
unfolding found_by_call
found_near rules given text size byte lt near none =
    let least = least_of rules.first_level.minima given in
    let base : Found = word_found rules (part_minima least) (take size text) (drop size text) in
    near_zero rules.utf8 (at_least_two least.left) (at_least_two least.right) (take size text) (before_nul text) base.digits base.changes byte lt near none

pub forbidden_even : ForbiddenPlacesAreEven
forbidden_even rules given text size byte lt =
    let digits : List ℕ = (found_by_call rules given text size).digits in (
      λ near none.
          let is : get_or digits byte 0 ≡ digit_zero = found_near rules given text size byte lt near none in
          (is, kept_zero rules given text digits byte lt is),
      λ beside.
          let is : get_or (digits_by_no_hyphen rules given text digits) byte 0 ≡ no_hyphen_digit given = kept_beside rules given text digits byte lt beside in
          (is, ap is_odd is ∙ taken_even given),
    )
