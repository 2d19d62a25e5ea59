-- Closed patterns give, only by the longest beginnings, the digits that all of them give.
use Rattle.std.proofs.Common.{◌≡◌, ◌⊎◌, ◌==◌, ℕ, zero, suc, inl, inr, ◌+◌, ◌-◌, ◌<◌, ◌≤◌, max, nat_cmp, nat_eq, Bool, true, cond, List, [], ◌∷◌, ◌++◌, length, map, take, drop, get_or, filter, fold, slice_range, Option, None, Some, is_some, refl, sym, ap, subst, ◌∙◌, arith, true≢false}
use Rattle.std.specs.Prelude.{option_and_then, option_map, slice_get}
use Rattle.std.specs.Cmp.Lexicographic.{slice_cmp, pointwise, nat_list_eq_equiv, same_text, texts_ties}
use Rattle.std.specs.Ordering.{eq_by_cmp}
use Rattle.std.specs.FinMap as finite
use Rattle.std.specs.List.{cons_option, filter_map, find, flat_map, range_with_len, starts_with}
use Rattle.std.proofs.lemmas.Bool.{cases_Bool, cases_eq, cases_lt, eq-eqb, ne_eqb}
use Rattle.std.proofs.lemmas.Grind.{common_steps}
use Rattle.std.proofs.lemmas.List.{drop-drop, drop-take, length-drop, length-take, map-append, take_all}
use Rattle.std.proofs.lemmas.List.Elements.{filter-append}
use Rattle.std.proofs.lemmas.List.Sums.{fold-append}
use Rattle.libhyphen_rule.proofs.LongestStart.{any_weaker}
use Rattle.hyphenation_breaks.specs.Dictionary.{TextMap}
use Rattle.libhyphen_files.specs.Levels.{pattern_at}
use Rattle.libhyphen_files.specs.Patterns.{Pattern}
use Rattle.libhyphen_rule.specs.Counting.{Counted, begins_key, counted_at, counted_from, counted_if_key, counted_in, counted_up_to, longest_start}
use Rattle.libhyphen_rule.specs.Laws.{ClosedPatternsReadAlike, GivesDigit, IsClosed, digit_of_key, digit_of_pattern}
use Rattle.libhyphen_rule.specs.OneLevel.{Offer, digit_at, offer_of, offers, offers_of}

-- ---- The greatest digit.

fold_max : (a : ℕ) (ns : List ℕ) → 48 ≤ a → fold max a ns ≡ max a (fold max 48 ns)
fold_max a [] low = omega arith
fold_max a (n ∷ ns) low = omega (arith, low, fold_max (max a n) ns (omega arith), fold_max (max 48 n) ns (omega arith))

fold_low : (ns : List ℕ) → 48 ≤ fold max 48 ns
fold_low [] = omega arith
fold_low (n ∷ ns) = omega (arith, fold_max (max 48 n) ns (omega arith))

digit_low : (given : List Offer) (p : ℕ) → 48 ≤ digit_at given p
unfolding digit_at
digit_low given p = fold_low (map (λ o. o.digit) (filter (λ o. o.place == p) given))

digit_append : (xs ys : List Offer) (p : ℕ) → digit_at (xs ++ ys) p ≡ max (digit_at xs p) (digit_at ys p)
unfolding digit_at
digit_append xs ys p =
    let test : Offer → Bool = λ o. o.place == p in
    ap (λ os. fold max 48 (map (λ o. o.digit) os)) (filter-append test xs ys)
    ∙ ap (fold max 48) (map-append (λ o. o.digit) (filter test xs) (filter test ys))
    ∙ fold-append max 48 (map (λ o. o.digit) (filter test xs)) (map (λ o. o.digit) (filter test ys))
    ∙ fold_max (fold max 48 (map (λ o. o.digit) (filter test xs))) (map (λ o. o.digit) (filter test ys)) (fold_low (map (λ o. o.digit) (filter test xs)))

digit_none : (p : ℕ) → digit_at [] p ≡ 48
unfolding digit_at
digit_none p = refl

digit_here : (o : Offer) (p : ℕ) → o.place ≡ p → digit_at (o ∷ []) p ≡ max 48 o.digit
unfolding digit_at
digit_here o p is = ap (λ b. fold max 48 (map (λ x. x.digit) (cond {A = List Offer} b (o ∷ []) []))) (eq-eqb o.place p is)

digit_elsewhere : (o : Offer) (p : ℕ) → (o.place ≡ p → ⊥) → digit_at (o ∷ []) p ≡ 48
unfolding digit_at
digit_elsewhere o p apart = ap (λ b. fold max 48 (map (λ x. x.digit) (cond {A = List Offer} b (o ∷ []) []))) (ne_eqb o.place p apart)

-- ---- One pattern that counts.

one_most : (c : Counted) (a n k : ℕ) → a ≤ k → k < a + n → get_or c.digits k 0 ≤ digit_at (map (offer_of c) (range_with_len a n)) (c.start + k)
one_most c a zero k low high = absurd (omega arith)
one_most c a (suc n) k low high =
    let rest : List Offer = map (offer_of c) (range_with_len (a + 1) n) in
    let both = digit_append (offer_of c a ∷ []) rest (c.start + k) in
    elim (cases_eq k a) [
      | inl is ↦
          let here = digit_here (offer_of c a) (c.start + k) (ap (λ m. c.start + m) (sym is)) in
          let same : get_or c.digits k 0 ≡ get_or c.digits a 0 = ap (λ m. get_or c.digits m 0) is in
          omega (arith, both, here, same)
      | inr apart ↦ omega (arith, both, one_most c (a + 1) n k (omega arith) (omega arith))
    ]

one_given : (c : Counted) (a n p : ℕ) → (digit_at (map (offer_of c) (range_with_len a n)) p ≡ 48)
    ⊎ ((k : ℕ) × (c.start + k ≡ p) × (digit_at (map (offer_of c) (range_with_len a n)) p ≡ get_or c.digits k 0))
one_given c a zero p = inl (digit_none p)
one_given c a (suc n) p =
    let rest : List Offer = map (offer_of c) (range_with_len (a + 1) n) in
    let both = digit_append (offer_of c a ∷ []) rest p in
    let low = digit_low rest p in
    elim (cases_eq (c.start + a) p) [
      | inl is ↦
          let here = digit_here (offer_of c a) p is in
          elim (cases_lt (digit_at rest p) (get_or c.digits a 0)) [
            | inl lt ↦ inr (a, is, omega (arith, both, here, lt, low))
            | inr le ↦ elim (one_given c (a + 1) n p) [
              | inl zero_is ↦ inl (omega (arith, both, here, le, low, zero_is))
              | inr one ↦ inr (one.0, one.1, omega (arith, both, here, le, low, one.2))
            ]
          ]
      | inr apart ↦
          let here = digit_elsewhere (offer_of c a) p apart in
          elim (one_given c (a + 1) n p) [
            | inl zero_is ↦ inl (omega (arith, both, here, zero_is))
            | inr one ↦ inr (one.0, one.1, omega (arith, both, here, low, one.2))
          ]
    ]

-- ---- All patterns that count.

offers_first : (c : Counted) (cs : List Counted) (p : ℕ) → digit_at (offers (c ∷ cs)) p ≡ max (digit_at (offers_of c) p) (digit_at (offers cs) p)
unfolding offers
offers_first c cs p = digit_append (offers_of c) (flat_map offers_of cs) p

more_counted : (o : Option Counted) (cs : List Counted) (p : ℕ) → digit_at (offers cs) p ≤ digit_at (offers (cons_option o cs)) p
more_counted None cs p = omega arith
more_counted (Some c) cs p = omega (arith, offers_first c cs p)

first_counted : (o : Option Counted) (c : Counted) (cs : List Counted) (p : ℕ) → o ≡ Some c → digit_at (offers_of c) p ≤ digit_at (offers (cons_option o cs)) p
first_counted o c cs p is =
    subst (λ x. digit_at (offers_of c) p ≤ digit_at (offers (cons_option x cs)) p) (sym is) (omega (arith, offers_first c cs p))

all_most : (f : ℕ → Option Counted) (a n end : ℕ) (c : Counted) (p : ℕ) → a ≤ end → end < a + n → f end ≡ Some c
    → digit_at (offers_of c) p ≤ digit_at (offers (filter_map f (range_with_len a n))) p
all_most f a zero end c p low high is = absurd (omega arith)
all_most f a (suc n) end c p low high is =
    let rest : List Counted = filter_map f (range_with_len (a + 1) n) in
    elim (cases_eq end a) [
      | inl same ↦ first_counted (f a) c rest p (sym (ap f same) ∙ is)
      | inr apart ↦ omega (arith, all_most f (a + 1) n end c p (omega arith) (omega arith) is, more_counted (f a) rest p)
    ]

-- The digit is that of a pattern that counts.
record Borne (f : ℕ → Option Counted) (low high p digit : ℕ) : Type 0 where
  pub end : ℕ
  pub from : low ≤ end
  pub to : end < high
  pub counted : Counted
  pub is : f end ≡ Some counted
  pub same : digit_at (offers_of counted) p ≡ digit

offers_none : (p : ℕ) → digit_at (offers []) p ≡ 48
unfolding offers
offers_none p = digit_none p

borne_later : (f : ℕ → Option Counted) (a high p digit other : ℕ) → other ≡ digit → Borne f (a + 1) high p digit → Borne f a high p other
borne_later f a high p digit other is b = record { end = b.end; from = omega (arith, b.from); to = b.to; counted = b.counted; is = b.is; same = b.same ∙ sym is }

given_first : (f : ℕ → Option Counted) (a high p : ℕ) (rest : List Counted) (o : Option Counted) → f a ≡ o → a < high
    → (digit_at (offers rest) p ≡ 48) ⊎ Borne f (a + 1) high p (digit_at (offers rest) p)
    → (digit_at (offers (cons_option o rest)) p ≡ 48) ⊎ Borne f a high p (digit_at (offers (cons_option o rest)) p)
given_first f a high p rest None is lt (inl nil) = inl nil
given_first f a high p rest None is lt (inr b) = inr (borne_later f a high p (digit_at (offers rest) p) (digit_at (offers rest) p) refl b)
given_first f a high p rest (Some c) is lt later =
    let both = offers_first c rest p in
    let low = digit_low (offers_of c) p in
    elim (cases_lt (digit_at (offers_of c) p) (digit_at (offers rest) p)) [
      | inl less ↦ elim later [
        | inl nil ↦ absurd (omega (arith, nil, low))
        | inr b ↦ inr (borne_later f a high p (digit_at (offers rest) p) (digit_at (offers (c ∷ rest)) p) (omega (arith, both, less)) b)
      ]
      | inr most ↦ inr (record { end = a; from = omega arith; to = lt; counted = c; is = is; same = omega (arith, both, most) })
    ]

all_given : (f : ℕ → Option Counted) (a n p high : ℕ) → high ≡ a + n
    → (digit_at (offers (filter_map f (range_with_len a n))) p ≡ 48) ⊎ Borne f a high p (digit_at (offers (filter_map f (range_with_len a n))) p)
all_given f a zero p high first_level = inl (offers_none p)
all_given f a (suc n) p high first_level =
    let rest : List Counted = filter_map f (range_with_len (a + 1) n) in
    let later = all_given f (a + 1) n p high (omega arith) in
    given_first f a high p rest (f a) refl (omega arith) later

-- ---- The longest beginning.

-- The first number that passes a test, no greater than one that does.
record FirstFound (test : ℕ → Bool) (o : Option ℕ) (low high : ℕ) : Type 0 where
  pub at : ℕ
  pub is : o ≡ Some at
  pub from : low ≤ at
  pub to : at ≤ high
  pub passes : test at ≡ true

find_within : (test : ℕ → Bool) (a n k : ℕ) → a ≤ k → k < a + n → test k ≡ true → FirstFound test (find test (range_with_len a n)) a k
find_within test a zero k low high passes = absurd (omega arith)
find_within test a (suc n) k low high passes = elim (cases_Bool (test a)) [
  | inl here ↦ record {
    at = a;
    is = ap (λ b. cond {A = Option ℕ} b (Some a) (find test (range_with_len (a + 1) n))) here;
    from = omega arith;
    to = low;
    passes = here;
  }
  | inr fails ↦ elim (cases_eq k a) [
    | inl same ↦ absurd (true≢false (sym (sym (ap test same) ∙ passes) ∙ fails))
    | inr apart ↦
        let later = find_within test (a + 1) n k (omega arith) (omega arith) passes in
        record {
          at = later.at;
          is = ap (λ b. cond {A = Option ℕ} b (Some a) (find test (range_with_len (a + 1) n))) fails ∙ later.is;
          from = omega (arith, later.from);
          to = later.to;
          passes = later.passes;
        }
  ]
]

find_by_next_level : (test : ℕ → Bool) (a n s : ℕ) → find test (range_with_len a n) ≡ Some s → s < a + n
find_by_next_level test a zero s is = cc
find_by_next_level test a (suc n) s is = elim (cases_Bool (test a)) [
  | inl here ↦
      let e : Some a ≡ Some s = sym (ap (λ b. cond {A = Option ℕ} b (Some a) (find test (range_with_len (a + 1) n))) here) ∙ is in
      let same : a ≡ s = cc in omega (arith, same)
  | inr fails ↦
      let e = sym (ap (λ b. cond {A = Option ℕ} b (Some a) (find test (range_with_len (a + 1) n))) fails) ∙ is in
      omega (arith, find_by_next_level test (a + 1) n s e)
]

longest_below : (patterns : TextMap (List Pattern)) (frame : List ℕ) (end s : ℕ) → longest_start patterns frame end ≡ Some s → s < end
unfolding longest_start
longest_below patterns frame end s is =
    let next_level = find_by_next_level (λ start. begins_key patterns (slice_range frame start end)) 0 end s is in omega (arith, next_level)

longest_within : (patterns : TextMap (List Pattern)) (frame : List ℕ) (end start : ℕ) → start < end → begins_key patterns (slice_range frame start end) ≡ true
    → FirstFound (λ s. begins_key patterns (slice_range frame s end)) (longest_start patterns frame end) 0 start
unfolding longest_start
longest_within patterns frame end start lt passes = find_within (λ s. begins_key patterns (slice_range frame s end)) 0 end start (omega arith) (omega arith) passes

-- ---- Keys.

length_slice : (frame : List ℕ) (start end : ℕ) → end ≤ length frame → length (slice_range frame start end) ≡ end - start
length_slice frame start end within = omega (arith, length-take (end - start) (drop start frame), length-drop start frame)

slice_end : (frame : List ℕ) (start later end : ℕ) → start ≤ later → later ≤ end
    → drop (later - start) (slice_range frame start end) ≡ slice_range frame later end
slice_end frame start later end low high =
    let count : end - start ≡ (later - start) + (end - later) = omega arith in
    let from : start + (later - start) ≡ later = omega arith in
    ap (λ (n : ℕ). drop (later - start) (take n (drop start frame))) count
    ∙ drop-take (later - start) (end - later) (drop start frame)
    ∙ ap (λ (xs : List ℕ). take (end - later) xs) (drop-drop (later - start) start frame)
    ∙ ap (λ (n : ℕ). take (end - later) (drop n frame)) from

is_key : (o : Option (List Pattern)) (p : Pattern) → option_and_then (λ found. slice_get found 0) o ≡ Some p → is_some o ≡ true
is_key None p is = cc
is_key (Some found) p is = refl

-- A text begins itself.
begins_itself : (text key : List ℕ) → text ≡ key → starts_with nat_eq key text ≡ true
begins_itself text key same =
    let whole : take (length text) text ≡ text = take_all (length text) text (omega arith) in
    subst (λ (k : List ℕ). pointwise nat_eq text (take (length text) k) ≡ true) same
    (ap (λ (t : List ℕ). pointwise nat_eq text t) whole ∙ nat_list_eq_equiv.refl text)

pattern_begins : (patterns : TextMap (List Pattern)) (text : List ℕ) (p : Pattern) → pattern_at patterns text ≡ Some p → begins_key patterns text ≡ true
pattern_begins patterns text p is =
    any_weaker (eq_by_cmp (slice_cmp nat_cmp) text) (λ key. starts_with nat_eq key text)
    (λ key ties. begins_itself text key (same_text text key (sym (texts_ties text key ∙ ties))))
    (finite.keys patterns) (sym (finite.contains_key-keys patterns text) ∙ is_key (finite.get patterns text) p is)

-- The pattern that counts at an end.
counts : (patterns : TextMap (List Pattern)) (frame : List ℕ) (end s : ℕ) (p : Pattern) → longest_start patterns frame end ≡ Some s
    → pattern_at patterns (slice_range frame s end) ≡ Some p → counted_at patterns frame end ≡ Some (counted_from frame end s p)
counts patterns frame end s p long is =
    ap (option_and_then (counted_if_key patterns frame end)) long ∙ ap (option_map (counted_from frame end s)) is

record Counts (patterns : TextMap (List Pattern)) (frame : List ℕ) (end : ℕ) (c : Counted) : Type 0 where
  pub start : ℕ
  pub pattern : Pattern
  pub long : longest_start patterns frame end ≡ Some start
  pub key : pattern_at patterns (slice_range frame start end) ≡ Some pattern
  pub same : counted_from frame end start pattern ≡ c

counts_key : (patterns : TextMap (List Pattern)) (frame : List ℕ) (end s : ℕ) (c : Counted) (p : Option Pattern) → longest_start patterns frame end ≡ Some s
    → pattern_at patterns (slice_range frame s end) ≡ p → option_map (counted_from frame end s) p ≡ Some c → Counts patterns frame end c
counts_key patterns frame end s c None long key is = cc
counts_key patterns frame end s c (Some p) long key is = record { start = s; pattern = p; long = long; key = key; same = cc }

counts_start : (patterns : TextMap (List Pattern)) (frame : List ℕ) (end : ℕ) (c : Counted) (s : Option ℕ) → longest_start patterns frame end ≡ s
    → option_and_then (counted_if_key patterns frame end) s ≡ Some c → Counts patterns frame end c
counts_start patterns frame end c None long is = cc
counts_start patterns frame end c (Some s) long is = counts_key patterns frame end s c (pattern_at patterns (slice_range frame s end)) long refl is

-- ---- Closed patterns.

past_zero : (xs : List ℕ) (k : ℕ) → length xs ≤ k → get_or xs k 0 ≡ 0
past_zero xs k le = grind (arith, common_steps)

one_at : (c : Counted) (k p : ℕ) → c.start + k ≡ p → max 48 (get_or c.digits k 0) ≤ digit_at (offers_of c) p
one_at c k p is =
    let low = digit_low (offers_of c) p in
    elim (cases_lt k (length c.digits)) [
      | inl lt ↦
          let most = one_most c 0 (length c.digits) k (omega arith) (omega arith) in
          let e = ap (digit_at (offers_of c)) is in
          omega (arith, most, e, low)
      | inr le ↦ omega (arith, past_zero c.digits k le, low)
    ]

-- The digit of the longest beginning, if it is a key, is given.
longest_given : (patterns : TextMap (List Pattern)) (frame : List ℕ) (end s place : ℕ) (o : Option Pattern) → s < end → end ≤ length frame → s ≤ place
    → longest_start patterns frame end ≡ Some s → pattern_at patterns (slice_range frame s end) ≡ o
    → digit_of_pattern (length (slice_range frame s end)) (place - s) o ≤ digit_at (offers (counted_in patterns frame)) place
unfolding counted_up_to
longest_given patterns frame end s place None lt within low long is = digit_low (offers (counted_in patterns frame)) place
longest_given patterns frame end s place (Some p) lt within low long is =
    let c : Counted = counted_from frame end s p in
    let here = one_at c (place - s) place (omega arith) in
    let size : length (slice_range frame s end) + 1 ≡ end + 1 - s = omega (arith, length_slice frame s end within) in
    let same : get_or (take (length (slice_range frame s end) + 1) p.digits) (place - s) 0 ≡ get_or c.digits (place - s) 0 =
    ap (λ n. get_or (take n p.digits) (place - s) 0) size in
    let all = all_most (counted_at patterns frame) 1 (length frame) end c place (omega arith) (omega arith) (counts patterns frame end s p long is) in
    omega (arith, here, same, all)

key_most : (patterns : TextMap (List Pattern)) → IsClosed patterns → (frame : List ℕ) (place start end : ℕ) (o : Option Pattern) → start < end → end ≤ length frame → start ≤ place
    → pattern_at patterns (slice_range frame start end) ≡ o
    → digit_of_pattern (length (slice_range frame start end)) (place - start) o ≤ digit_at (offers (counted_in patterns frame)) place
key_most patterns closed frame place start end None lt within low is = digit_low (offers (counted_in patterns frame)) place
key_most patterns closed frame place start end (Some p) lt within low is =
    let long = longest_within patterns frame end start lt (pattern_begins patterns (slice_range frame start end) p is) in
    let s : ℕ = long.at in
    let text : List ℕ = slice_range frame s end in
    let size = length_slice frame s end within in
    let tail : drop (start - s) text ≡ slice_range frame start end = slice_end frame s start end long.to (omega arith) in
    let kept = closed text long.passes (start - s) (place - start) (omega (arith, size, long.to)) in
    let own = longest_given patterns frame end s place (pattern_at patterns text) (omega (arith, long.to)) within (omega (arith, long.to)) long.is refl in
    let mine : digit_of_key patterns (drop (start - s) text) (place - start) ≡ digit_of_pattern (length (slice_range frame start end)) (place - start) (Some p) =
    ap (λ t. digit_of_key patterns t (place - start)) tail ∙ ap (digit_of_pattern (length (slice_range frame start end)) (place - start)) is in
    let at : (start - s) + (place - start) ≡ place - s = omega (arith, long.to) in
    let theirs : digit_of_key patterns text ((start - s) + (place - start)) ≡ digit_of_key patterns text (place - s) = ap (digit_of_key patterns text) at in
    omega (arith, kept, own, mine, theirs)

borne_gives : (patterns : TextMap (List Pattern)) (frame : List ℕ) (place digit : ℕ) → 48 ≤ digit → Borne (counted_at patterns frame) 1 (1 + length frame) place digit
    → (digit ≡ 48) ⊎ ((start : ℕ) × (end : ℕ) × GivesDigit patterns frame place start end digit)
borne_gives patterns frame place digit low b =
    let c : Counted = b.counted in
    let from = counts_start patterns frame b.end c (longest_start patterns frame b.end) refl b.is in
    let s : ℕ = from.start in
    let next_level = longest_below patterns frame b.end s from.long in
    let starts : s ≡ c.start = ap (λ x. x.start) from.same in
    elim (one_given c 0 (length c.digits) place) [
      | inl nil ↦ inl (sym b.same ∙ nil)
      | inr one ↦
          let k : ℕ = one.0 in
          let within : b.end ≤ length frame = omega (arith, b.to) in
          let number : place - s ≡ k = omega (arith, starts, one.1) in
          let size : length (slice_range frame s b.end) + 1 ≡ b.end + 1 - s = omega (arith, next_level, length_slice frame s b.end within) in
          let digits : take (length (slice_range frame s b.end) + 1) from.pattern.digits ≡ c.digits =
          ap (λ n. take n from.pattern.digits) size ∙ ap (λ x. x.digits) from.same in
          let value : get_or (take (length (slice_range frame s b.end) + 1) from.pattern.digits) (place - s) 0 ≡ digit =
          ap (λ xs. get_or xs (place - s) 0) digits ∙ ap (λ n. get_or c.digits n 0) number ∙ sym one.2 ∙ b.same in
          inr (
            s,
            b.end,
            record {
              nonempty = next_level;
              within = within;
              before = omega (arith, starts, one.1);
              gives = ap (digit_of_pattern (length (slice_range frame s b.end)) (place - s)) from.key ∙ omega (arith, value, low);
            },
          )
    ]

all_borne : (patterns : TextMap (List Pattern)) (frame : List ℕ) (place : ℕ) → (digit_at (offers (counted_in patterns frame)) place ≡ 48)
    ⊎ Borne (counted_at patterns frame) 1 (1 + length frame) place (digit_at (offers (counted_in patterns frame)) place)
unfolding counted_up_to
all_borne patterns frame place = all_given (counted_at patterns frame) 1 (length frame) place (1 + length frame) refl

-- The digit of a place is 0, or some key gives it.
pub some_gives : (patterns : TextMap (List Pattern)) (frame : List ℕ) (place : ℕ) → (digit_at (offers (counted_in patterns frame)) place ≡ 48)
    ⊎ ((start : ℕ) × (end : ℕ) × GivesDigit patterns frame place start end (digit_at (offers (counted_in patterns frame)) place))
some_gives patterns frame place = elim (all_borne patterns frame place) [
  | inl nil ↦ inl nil
  | inr b ↦ borne_gives patterns frame place (digit_at (offers (counted_in patterns frame)) place) (digit_low (offers (counted_in patterns frame)) place) b
]

pub read_alike : ClosedPatternsReadAlike
read_alike patterns closed frame place =
    record {
      most = λ start end other gives.
          let m = key_most patterns closed frame place start end (pattern_at patterns (slice_range frame start end)) gives.nonempty gives.within gives.before refl in
          omega (arith, m, gives.gives);
      given = some_gives patterns frame place;
    }
