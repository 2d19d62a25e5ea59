-- The digits of a frame's places, with one byte of the frame more.
use Rattle.std.proofs.Common.{◌≡◌, ℕ, zero, suc, ◌+◌, ◌-◌, ◌<◌, ◌≤◌, ◌≢◌, max, List, [], ◌∷◌, ◌++◌, length, map, Option, Some, None, refl, sym, ap, ◌∙◌, arith, inl, inr}
use Rattle.std.proofs.lemmas.Bool.{cases_eq, cases_lt}
use Rattle.std.proofs.lemmas.List.{append-nil, get_or_past, get_or-take, length-take}
use Rattle.std.proofs.lemmas.Grind.{get_or_default_zero}
use Rattle.std.specs.Prelude.{slice_index}
use Rattle.std.specs.List.{range_with_len}
use Rattle.hyphenation_breaks.specs.Ascii.{digit_zero}
use Rattle.libhyphen_files.specs.Patterns.{Pattern}
use Rattle.libhyphen_files.specs.Vectors.{IsVectorOf, digit_given}
use Rattle.libhyphen_rule.specs.Counting.{Counted, counted_from}
use Rattle.libhyphen_rule.specs.OneLevel.{Offer, offer_of, offers_of, offers, digit_at}
use Rattle.libhyphen_rule.specs.Private.Lanes.{AllKnown, AllPlain, IsFound}
use Rattle.libhyphen_rule.proofs.Offers.{digit_raised, digit_kept, pattern_offers_more, offers_more}

-- ---- A pattern more.

-- A place to which it gives no digit.
pub pattern_kept : (given : List Offer) (c : Counted) (place n : ℕ) → ((k : ℕ) → k < n → c.start + k ≢ place)
    → digit_at (given ++ map (offer_of c) (range_with_len 0 n)) place ≡ digit_at given place
pattern_kept given c place zero apart = ap (λ (g : List Offer). digit_at g place) (append-nil given)
pattern_kept given c place (suc m) apart =
    let count : suc m ≡ m + 1 = omega arith in
    ap (λ (k : ℕ). digit_at (given ++ map (offer_of c) (range_with_len 0 k)) place) count
    ∙ ap (λ (g : List Offer). digit_at g place) (sym (pattern_offers_more given c m))
    ∙ digit_kept (given ++ map (offer_of c) (range_with_len 0 m)) (offer_of c m) place (apart m (omega arith))
    ∙ pattern_kept given c place m (λ k lt. apart k (omega arith))

-- A place to which it gives one.
pub pattern_raised : (given : List Offer) (c : Counted) (place at n : ℕ) → at < n → c.start + at ≡ place
    → digit_at (given ++ map (offer_of c) (range_with_len 0 n)) place ≡ max (digit_at given place) (slice_index c.digits at)
pattern_raised given c place at zero lt is = absurd (omega arith)
pattern_raised given c place at (suc m) lt is =
    let count : suc m ≡ m + 1 = omega arith in
    let before : List Offer = given ++ map (offer_of c) (range_with_len 0 m) in
    ap (λ (k : ℕ). digit_at (given ++ map (offer_of c) (range_with_len 0 k)) place) count
    ∙ ap (λ (g : List Offer). digit_at g place) (sym (pattern_offers_more given c m))
    ∙ elim (cases_eq at m) [
      | inl last ↦
          let here : c.start + m ≡ place = ap (λ (k : ℕ). c.start + k) (sym last) ∙ is in
          digit_raised before (offer_of c m) place here
          ∙ ap (λ (d : ℕ). max d (slice_index c.digits m)) (pattern_kept given c place m (λ k low same. omega arith))
          ∙ ap (λ (k : ℕ). max (digit_at given place) (slice_index c.digits k)) (sym last)
      | inr apart ↦
          digit_kept before (offer_of c m) place (λ same. omega arith)
          ∙ pattern_raised given c place at m (omega arith) is
    ]

-- ---- A pattern more that counts in a frame.

module _ (counted : List Counted) (frame : List ℕ) (end start : ℕ) (p : Pattern) (low : start ≤ end) where
  abbrev one : Counted
  one = counted_from frame end start p

  more : (place : ℕ) → digit_at (offers (counted ++ one ∷ [])) place ≡ digit_at (offers counted ++ offers_of one) place
  more place = ap (λ (g : List Offer). digit_at g place) (offers_more counted one)

  size : length one.digits ≤ end + 1 - start
  size = omega (arith, length-take (end + 1 - start) p.digits)

  pub frame_before : (place : ℕ) → place < start → digit_at (offers (counted ++ one ∷ [])) place ≡ digit_at (offers counted) place
  frame_before place lt = more place ∙ pattern_kept (offers counted) one place (length one.digits) (λ k less same. omega arith)

  pub frame_after : (place : ℕ) → end < place → digit_at (offers (counted ++ one ∷ [])) place ≡ digit_at (offers counted) place
  frame_after place lt = more place ∙ pattern_kept (offers counted) one place (length one.digits) (λ k less same. omega (arith, size))

  pub frame_within : (place at : ℕ) → start + at ≡ place → place ≤ end → digit_zero ≤ digit_at (offers counted) place
      → digit_at (offers (counted ++ one ∷ [])) place ≡ max (digit_at (offers counted) place) (digit_given (Some p) at)
  frame_within place at is le least = elim (cases_lt at (length one.digits)) [
    | inl lt ↦
        let within : at < length p.digits = omega (arith, length-take (end + 1 - start) p.digits) in
        more place ∙ pattern_raised (offers counted) one place at (length one.digits) lt is
        ∙ ap (λ (d : ℕ). max (digit_at (offers counted) place) d)
        (get_or-take (end + 1 - start) p.digits at 0 (omega arith) ∙ sym (get_or_default_zero p.digits at digit_zero within))
    | inr past ↦
        let outside : length p.digits ≤ at = omega (arith, length-take (end + 1 - start) p.digits) in
        let none : digit_given (Some p) at ≡ digit_zero = get_or_past p.digits at digit_zero outside in
        let kept : digit_at (offers (counted ++ one ∷ [])) place ≡ digit_at (offers counted) place =
        more place ∙ pattern_kept (offers counted) one place (length one.digits) (λ k less same. omega arith) in
        kept ∙ omega (arith, none)
  ]

-- ---- The digits by a node's vector.

-- The patterns that count, with that of a node if it has one.
abbrev pub taken : List Counted → List ℕ → ℕ → ℕ → Option Pattern → List Counted
taken counted frame end start None = counted
taken counted frame end start (Some p) = counted ++ counted_from frame end start p ∷ []

plain_more : (counted : List Counted) (c : Counted) → AllPlain counted → c.change ≡ None → AllPlain (counted ++ c ∷ [])
plain_more [] c plain none = (none, tt)
plain_more (x ∷ xs) c plain none = (plain.0, plain_more xs c plain.1 none)

module _ (counted : List Counted) (frame : List ℕ) (end bytes : ℕ) (low : bytes ≤ end) (vector : List ℕ) where
  plain_taken : (p : Option Pattern) → IsVectorOf p bytes vector → AllPlain counted → AllPlain (taken counted frame end (end - bytes) p)
  plain_taken None v plain = plain
  plain_taken (Some p) v plain = plain_more counted (counted_from frame end (end - bytes) p) plain v.no_change

  near : (p : Option Pattern) → IsVectorOf p bytes vector → (lane place : ℕ) → lane < 16 → place + 15 ≡ end + lane
      → digit_zero ≤ digit_at (offers counted) place
      → digit_at (offers (taken counted frame end (end - bytes) p)) place ≡ max (digit_at (offers counted) place) (digit_zero + slice_index vector lane)
  near None v lane place lt is least = elim (cases_lt (lane + bytes) 15) [
    | inl short ↦ omega (arith, v.before lane short)
    | inr long ↦
        let same : digit_zero ≡ digit_zero + slice_index vector lane = v.each lane (lane + bytes - 15) lt (omega arith) in
        omega (arith, same)
  ]
  near (Some p) v lane place lt is least = elim (cases_lt place (end - bytes)) [
    | inl out ↦ omega (arith, frame_before counted frame end (end - bytes) p (omega arith) place out, v.before lane (omega arith))
    | inr within ↦
        let at : ℕ = place - (end - bytes) in
        frame_within counted frame end (end - bytes) p (omega arith) place at (omega arith) (omega arith) least
        ∙ ap (λ (d : ℕ). max (digit_at (offers counted) place) d) (v.each lane at lt (omega arith))
  ]

  far : (p : Option Pattern) → IsVectorOf p bytes vector → (place : ℕ) → place + 15 < end → digit_zero ≤ digit_at (offers counted) place
      → digit_at (offers (taken counted frame end (end - bytes) p)) place ≡ digit_at (offers counted) place
  far None v place lt least = refl
  far (Some p) v place lt least = elim (cases_lt place (end - bytes)) [
    | inl out ↦ frame_before counted frame end (end - bytes) p (omega arith) place out
    | inr within ↦
        let at : ℕ = place - (end - bytes) in
        omega (arith, frame_within counted frame end (end - bytes) p (omega arith) place at (omega arith) (omega arith) least, v.far at (omega arith))
  ]

  beyond : (p : Option Pattern) → (place : ℕ) → end < place
      → digit_at (offers (taken counted frame end (end - bytes) p)) place ≡ digit_at (offers counted) place
  beyond None place lt = refl
  beyond (Some p) place lt = frame_after counted frame end (end - bytes) p (omega arith) place lt

-- The lanes with one byte of the frame more.
module _ (counted : List Counted) (frame : List ℕ) (at bytes : ℕ) (low : bytes ≤ at + 1) (p : Option Pattern) (vector last next list new : List ℕ)
    (v : IsVectorOf p bytes vector) (known : AllKnown vector) (long : length last ≡ 16)
    (raised : (lane : ℕ) → lane < 16 → slice_index next lane ≡ max (slice_index last (lane + 1)) (slice_index vector lane))
    (put : (lane : ℕ) → lane < 16 → slice_index new (at + lane) ≡ slice_index next lane)
    (kept : (i : ℕ) → i < at → slice_index new i ≡ slice_index list i)
    (was : IsFound counted at last list) where
  least : (place : ℕ) → digit_zero ≤ digit_at (offers counted) place
  least place = elim (cases_lt place at) [
    | inl before ↦ omega (arith, was.written place before)
    | inr rest ↦ elim (cases_lt at place) [
      | inl after ↦ omega (arith, was.ahead place after)
      | inr here ↦ omega (arith, was.each 15 place (omega arith) (omega arith))
    ]
  ]

  beside : (lane : ℕ) → lane < 16 → 16 ≤ lane + 1 → slice_index last (lane + 1) ≡ 0
  beside lane lt high = get_or_past last (lane + 1) 0 (omega (arith, long))

  every : (lane place : ℕ) → lane < 16 → place + 15 ≡ (at + 1) + lane
      → digit_at (offers (taken counted frame (at + 1) (at + 1 - bytes) p)) place ≡ digit_zero + slice_index next lane
  every lane place lt is =
      let old : digit_at (offers counted) place ≡ digit_zero + slice_index last (lane + 1) = elim (cases_lt (lane + 1) 16) [
        | inl inner ↦ was.each (lane + 1) place inner (omega arith)
        | inr high ↦ omega (arith, was.ahead place (omega arith), beside lane lt high)
      ] in
      omega (arith, near counted frame (at + 1) bytes low vector p v lane place lt is (least place), raised lane lt, old)

  digit : (lane : ℕ) → lane < 16 → slice_index next lane < 10
  digit lane lt =
      let old : slice_index last (lane + 1) < 10 = elim (cases_lt (lane + 1) 16) [
        | inl inner ↦ was.digits (lane + 1) inner
        | inr high ↦ omega (arith, beside lane lt high)
      ] in
      omega (arith, raised lane lt, old, known lane lt)

  pub found_more : IsFound (taken counted frame (at + 1) (at + 1 - bytes) p) (at + 1) next new
  found_more = record {
    plain = plain_taken counted frame (at + 1) bytes low vector p v was.plain;
    each = every;
    ahead = λ place lt. beyond counted frame (at + 1) bytes low vector p place lt ∙ was.ahead place (omega arith);
    written = λ place lt. elim (cases_lt (place + 14) at) [
      | inl before ↦
          far counted frame (at + 1) bytes low vector p v place (omega arith) (least place) ∙ was.written place (omega arith)
          ∙ ap (λ (d : ℕ). digit_zero + d) (sym (kept (place + 14) before))
      | inr close ↦
          let lane : ℕ = place + 14 - at in
          let here : at + lane ≡ place + 14 = omega arith in
          every lane place (omega arith) (omega arith)
          ∙ ap (λ (d : ℕ). digit_zero + d) (sym (put lane (omega arith)) ∙ ap (slice_index new) here)
    ];
    digits = digit;
    written_digits = λ place lt. elim (cases_lt (place + 14) at) [
      | inl before ↦ omega (arith, kept (place + 14) before, was.written_digits place (omega arith))
      | inr close ↦
          let lane : ℕ = place + 14 - at in
          let here : at + lane ≡ place + 14 = omega arith in
          omega (arith, put lane (omega arith), ap (slice_index new) here, digit lane (omega arith))
    ];
  }
