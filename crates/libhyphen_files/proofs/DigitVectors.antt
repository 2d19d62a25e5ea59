-- The vector of a pattern's digits, place by place.
use Rattle.std.proofs.Common.{◌≡◌, ℕ, ◌+◌, ◌-◌, ◌<◌, ◌≤◌, ◌≢◌, List, length, take, get_or, set, sym, ap, ◌∙◌, arith, inl, inr}
use Rattle.std.specs.Prelude.{slice_index}
use Rattle.std.proofs.lemmas.Bool.{cases_eq, cases_lt}
use Rattle.std.proofs.lemmas.List.{length-set, length-take, get_or-take, get_or_past, get_or_default, get_or-set_same, get_or-set_other}
use Rattle.hyphenation_breaks.specs.Ascii.{digit_zero}
use Rattle.libhyphen_files.specs.Private.Vectors.{HasDigitsOf}

-- ---- the items before a place, and with it

other_place : (digits : List ℕ) (k place : ℕ) → place ≢ k → get_or (take (k + 1) digits) place digit_zero ≡ get_or (take k digits) place digit_zero
other_place digits k place apart = elim (cases_lt place k) [
  | inl less ↦ get_or-take (k + 1) digits place digit_zero (omega arith) ∙ sym (get_or-take k digits place digit_zero less)
  | inr most ↦
      get_or_past (take (k + 1) digits) place digit_zero (omega (arith, length-take (k + 1) digits, apart))
      ∙ sym (get_or_past (take k digits) place digit_zero (omega (arith, length-take k digits)))
]

this_place : (digits : List ℕ) (k place : ℕ) → k < length digits → place ≡ k → get_or (take (k + 1) digits) place digit_zero ≡ get_or digits k 0
this_place digits k place lt is =
    get_or-take (k + 1) digits place digit_zero (omega arith) ∙ ap (λ (i : ℕ). get_or digits i digit_zero) is ∙ get_or_default digits k digit_zero 0 lt

-- ---- the vector of the digits before a place

-- one more digit, near the key's end
pub digit_set : (digits : List ℕ) (bytes : ℕ) (vector : List ℕ) (k value : ℕ) → k < length digits → k ≤ bytes → bytes - k ≤ 15 → get_or digits k 0 ≡ digit_zero + value
    → HasDigitsOf (take k digits) bytes vector → HasDigitsOf (take (k + 1) digits) bytes (set vector (15 - (bytes - k)) value)
digit_set digits bytes vector k value lt le near read was = record {
  lanes = length-set vector at value ∙ was.lanes;
  each = λ lane place low is.
      elim (cases_eq place k) [
        | inl same ↦
            let here : lane ≡ at = omega arith in
            this_place digits k place lt same ∙ read ∙ ap (λ (n : ℕ). digit_zero + n)
            (sym (ap (slice_index (set vector at value)) here ∙ get_or-set_same vector at value 0 (omega (arith, was.lanes))))
        | inr apart ↦
            let there : lane ≢ at = λ e. apart (omega (arith, e)) in
            other_place digits k place apart ∙ was.each lane place low is ∙ ap (λ (n : ℕ). digit_zero + n) (sym (get_or-set_other vector at lane value 0 there))
      ];
  before = λ lane low.
      let there : lane ≢ at = λ e. absurd (omega (arith, e)) in
      get_or-set_other vector at lane value 0 there ∙ was.before lane low;
  far = λ place less.
      let apart : place ≢ k = λ e. absurd (omega (arith, e)) in
      other_place digits k place apart ∙ was.far place less;
}
  where
    at : ℕ
    at = 15 - (bytes - k)

-- one more digit, which is 0 and far before the key's end
pub digit_far : (digits : List ℕ) (bytes : ℕ) (vector : List ℕ) (k value : ℕ) → k < length digits → 15 < bytes - k → get_or digits k 0 ≡ digit_zero + value → value ≡ 0
    → HasDigitsOf (take k digits) bytes vector → HasDigitsOf (take (k + 1) digits) bytes vector
digit_far digits bytes vector k value lt far read none was = record {
  lanes = was.lanes;
  each = λ lane place low is.
      let apart : place ≢ k = λ e. absurd (omega (arith, e)) in
      other_place digits k place apart ∙ was.each lane place low is;
  before = was.before;
  far = λ place less.
      elim (cases_eq place k) [
        | inl same ↦ this_place digits k place lt same ∙ read ∙ ap (λ (n : ℕ). digit_zero + n) none
        | inr apart ↦ other_place digits k place apart ∙ was.far place less
      ];
}

-- one more digit, past the key's end
pub digit_past : (digits : List ℕ) (bytes : ℕ) (vector : List ℕ) (k : ℕ) → bytes < k
    → HasDigitsOf (take k digits) bytes vector → HasDigitsOf (take (k + 1) digits) bytes vector
digit_past digits bytes vector k lt was = record {
  lanes = was.lanes;
  each = λ lane place low is.
      let apart : place ≢ k = λ e. absurd (omega (arith, e)) in
      other_place digits k place apart ∙ was.each lane place low is;
  before = was.before;
  far = λ place less.
      let apart : place ≢ k = λ e. absurd (omega (arith, e)) in
      other_place digits k place apart ∙ was.far place less;
}
