-- The digits of a word's places while the patterns are met.
use Rattle.std.proofs.Common.{◌≡◌, ℕ, ◌+◌, ◌-◌, ◌<◌, ◌≤◌, cond, List, [], ◌∷◌, ◌++◌, length, map, slice_index, slice_set, get_or, Bool, true, false, refl, sym, ap, subst, ◌∙◌, arith, zero-add, inl, inr}
use Rattle.std.proofs.lemmas.Bool.{cases_eq, cases_lt, lt-ltb, le-ltb}
use Rattle.std.proofs.lemmas.List.{get_or-set_same, get_or-set_other, length-append, length-map, map-id}
use Rattle.std.proofs.lemmas.Grind.{same_number_lists}
use Rattle.std.proofs.lemmas.List.FromFn.{length-map-range_with_len, get_or-map-range_with_len}
use Rattle.std.specs.Prelude.{◌&&◌, is_some}
use Rattle.std.specs.List.{range_with_len}
use Rattle.std.proofs.Math.ListN.{length-set}
use Rattle.hyphenation_breaks.specs.Ascii.{digit_zero, dot}
use Rattle.hyphenation_breaks.specs.Dictionary.{TextMap}
use Rattle.libhyphen_files.specs.Patterns.{Pattern}
use Rattle.libhyphen_rule.specs.Counting.{shown, framed, Counted, counted_up_to}
use Rattle.libhyphen_rule.specs.OneLevel.{Offer, offers, digit_at, digit_behind, given_by}
use Rattle.libhyphen_rule.specs.Private.Digits.{HasDigits, TakesOffer, TakesPattern}
use Rattle.libhyphen_rule.proofs.Offers.{digit_raised, digit_kept, offers_more}

-- The digit behind a byte that is not the last one, and behind the last one.
pub behind_inner : (given : List Offer) (bytes byte : ℕ) → byte + 1 < bytes → digit_behind given bytes byte ≡ digit_at given (byte + 2)
behind_inner given bytes byte lt = ap (λ b. cond b (digit_at given (byte + 2)) digit_zero) (lt-ltb (byte + 1) bytes lt)

pub behind_last : (given : List Offer) (bytes byte : ℕ) → bytes ≤ byte + 1 → digit_behind given bytes byte ≡ digit_zero
behind_last given bytes byte le = ap (λ b. cond b (digit_at given (byte + 2)) digit_zero) (le-ltb (byte + 1) bytes le)

-- The digit behind a byte stays where the offer is for another place, or is no greater.
pub behind_kept : (given : List Offer) (o : Offer) (bytes byte : ℕ)
    → (o.place ≡ byte + 2 → byte + 1 < bytes → o.digit ≤ digit_at given (byte + 2))
    → digit_behind (given ++ o ∷ []) bytes byte ≡ digit_behind given bytes byte
behind_kept given o bytes byte low = elim (cases_lt (byte + 1) bytes) [
  | inr le ↦ behind_last (given ++ o ∷ []) bytes byte le ∙ sym (behind_last given bytes byte le)
  | inl lt ↦
      let same : digit_at (given ++ o ∷ []) (byte + 2) ≡ digit_at given (byte + 2) = elim (cases_eq o.place (byte + 2)) [
        | inl is ↦ digit_raised given o (byte + 2) is ∙ omega (arith, low is lt)
        | inr apart ↦ digit_kept given o (byte + 2) apart
      ] in
      behind_inner (given ++ o ∷ []) bytes byte lt ∙ same ∙ sym (behind_inner given bytes byte lt)
]

pub raised : (digits : List ℕ) (place digit : ℕ) → 2 ≤ place → place - 1 < length digits
    → get_or digits (place - 2) 0 < digit → TakesOffer place digit digits (slice_set digits (place - 2) digit)
raised digits place digit low inside less = λ given o there value has byte next_level.
    let size : length (slice_set digits (place - 2) digit) ≡ length digits = length-set digits (place - 2) digit in
    let within : byte < length digits = omega arith in
    ap (λ (n : ℕ). n) (elim (cases_eq byte (place - 2)) [
      | inl is ↦
          let lt : byte + 1 < length digits = omega arith in
          let at : byte + 2 ≡ place = omega arith in
          let new : get_or (slice_set digits (place - 2) digit) byte 0 ≡ digit =
          ap (λ (k : ℕ). get_or (slice_set digits (place - 2) digit) k 0) is ∙ get_or-set_same digits (place - 2) digit 0 (omega arith) in
          let old : get_or digits byte 0 ≡ digit_at given (byte + 2) = has byte within ∙ behind_inner given (length digits) byte lt in
          let small : get_or digits byte 0 < digit = subst (λ (k : ℕ). get_or digits k 0 < digit) (sym is) less in
          let more = digit_raised given o (byte + 2) (there ∙ sym at) in
          let is_new : digit_at (given ++ o ∷ []) (byte + 2) ≡ digit = omega arith in
          new ∙ sym is_new ∙ sym (behind_inner (given ++ o ∷ []) (length digits) byte lt)
      | inr apart ↦
          get_or-set_other digits (place - 2) byte digit 0 apart ∙ has byte within
          ∙ sym (behind_kept given o (length digits) byte (λ here lt. absurd (apart (omega arith))))
    ]) ∙ ap (λ (n : ℕ). digit_behind (given ++ o ∷ []) n byte) (sym size)

pub not_raised : (digits : List ℕ) (place digit : ℕ)
    → (2 ≤ place → place - 1 < length digits → digit ≤ get_or digits (place - 2) 0) → TakesOffer place digit digits digits
not_raised digits place digit most = λ given o there value has byte next_level.
    has byte next_level ∙ sym (behind_kept given o (length digits) byte (λ here lt.
    let at : place - 2 ≡ byte = omega arith in
    let old : get_or digits byte 0 ≡ digit_at given (byte + 2) = has byte next_level ∙ behind_inner given (length digits) byte lt in
    let small : digit ≤ get_or digits byte 0 = subst (λ (k : ℕ). digit ≤ get_or digits k 0) at (most (omega arith) (omega arith)) in
    omega arith))

-- No digit is given at first.
pub has_none : (plain : Bool) (patterns : TextMap (List Pattern)) (frame digits : List ℕ)
    → ((byte : ℕ) → byte < length digits → slice_index digits byte ≡ digit_zero) → HasDigits (offers (map (given_by plain) (counted_up_to patterns frame 0))) digits
unfolding counted_up_to offers digit_at
has_none plain patterns frame digits zeros = λ byte next_level. elim (cases_lt (byte + 1) (length digits)) [
  | inl lt ↦ zeros byte next_level ∙ sym (behind_inner (offers (map (given_by plain) (counted_up_to patterns frame 0))) (length digits) byte lt)
  | inr le ↦ zeros byte next_level ∙ sym (behind_last (offers (map (given_by plain) (counted_up_to patterns frame 0))) (length digits) byte le)
]

-- The digits of all bytes.
pub digits_are : (given all : List Offer) (digits : List ℕ) (bytes : ℕ) → length digits ≡ bytes → given ≡ all → HasDigits given digits
    → digits ≡ map (digit_behind all bytes) (range_with_len 0 bytes)
digits_are given all digits bytes size same has =
    let f = λ (byte : ℕ). digit_behind all bytes byte in
    let long = length-map-range_with_len f 0 bytes in
    same_number_lists digits (map f (range_with_len 0 bytes)) (size ∙ sym long) (λ byte next_level.
    let within : byte < bytes = omega arith in
    has byte next_level ∙ ap (λ (g : List Offer). digit_behind g (length digits) byte) same ∙ ap (λ (n : ℕ). digit_behind all n byte) size
    ∙ sym (get_or-map-range_with_len f 0 bytes byte byte 0 within (zero-add byte)))

pub length-framed : (word : List ℕ) → length (framed word) ≡ length word + 2
length-framed word = omega (arith, length-append (map shown word) (dot ∷ []), length-map word shown)

-- The digits where no pattern more counts, and where one does.
pub has_same : (counted more : List Counted) (digits new : List ℕ) → more ≡ counted → new ≡ digits → HasDigits (offers counted) digits → HasDigits (offers more) new
has_same counted more digits new same kept has =
    subst (λ (d : List ℕ). HasDigits (offers more) d) (sym kept) (subst (λ (cs : List Counted). HasDigits (offers cs) digits) (sym same) has)

pub has_more : (counted more : List Counted) (c : Counted) (start : ℕ) (given digits raised new : List ℕ) → more ≡ counted ++ c ∷ [] → new ≡ raised
    → c.start ≡ start → c.digits ≡ given → TakesPattern start given digits raised → HasDigits (offers counted) digits → HasDigits (offers more) new
has_more counted more c start given digits raised new is kept at are takes has =
    subst (λ (d : List ℕ). HasDigits (offers more) d) (sym kept)
    (subst (λ (g : List Offer). HasDigits g raised) (sym (ap offers is ∙ offers_more counted c)) (takes (offers counted) c at are has))

-- The digits that a pattern gives begin where the pattern does, and are its own or none.
pub given_start : (plain : Bool) (c : Counted) → (given_by plain c).start ≡ c.start
given_start plain c =
    elim (plain && is_some c.change) as (λ b. (cond b (record c { digits = [] }) c).start ≡ c.start) [ true ↦ refl | false ↦ refl ]

pub given_digits : (plain : Bool) (c : Counted) → (given_by plain c).digits ≡ cond (plain && is_some c.change) [] c.digits
given_digits plain c =
    elim (plain && is_some c.change) as (λ b. (cond b (record c { digits = [] }) c).digits ≡ cond b [] c.digits) [ true ↦ refl | false ↦ refl ]

-- All patterns give their digits where none is asked for none.
pub all_given : (counted : List Counted) → map (given_by false) counted ≡ counted
all_given counted = map-id counted
