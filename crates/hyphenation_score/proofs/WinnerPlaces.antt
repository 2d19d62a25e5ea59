-- The occurrence of a winner.
use Rattle.std.proofs.Common.{◌≡◌, ℕ, zero, suc, ◌+◌, ◌-◌, ◌<◌, ◌≤◌, ◌==◌, max, Bool, true, false, cond, List, [], ◌∷◌, length, get_or, filter, map, Option, Some, None, refl, sym, ap, subst, ◌∙◌, arith, ◌⊎◌, inl, inr}
use Rattle.std.specs.Prelude.{slice_range, unwrap_or}
use Rattle.std.specs.List.{find, flat_map, range_with_len, IsAmong}
use Rattle.std.proofs.lemmas.Bool.{cases_eq, cases_lt, eqb-true, eq-eqb}
use Rattle.hyphenation_breaks.specs.Dictionary.{Patterns}
use Rattle.hyphenation_breaks.specs.declared.entry.Entry.{Entry}
use Rattle.hyphenation_score.specs.Scoring.{frame, bearers_between, bearers_from, bearers, greatest_value, first_greatest, value_of, value_at, winner_at}
use Rattle.hyphenation_score.specs.Winners.{Bears, Before, Wins, IsPair, IsBest}
use Rattle.hyphenation_score.specs.Private.Scoring.{greater}
use Rattle.hyphenation_score.proofs.GreatestValues.{greatest_from, greatest_value-within, row_value}
use Rattle.hyphenation_score.proofs.FirstGreatest.{first-append, first_none, first_some, first_value, value_of-first, greater_first, greater_second}

-- ---- members of lists

-- an element that passes is among those that are found
kept_value : {C : Type 0} (test : Entry C → Bool) (es : List (Entry C)) (i : ℕ) (e : Entry C) → i < length es → e ≡ get_or es i e → test e ≡ true → e.value ≤ greatest_value (filter test es)
kept_value test [] i e lt is passes = absurd (omega arith)
kept_value {C} test (x ∷ es) zero e lt is passes =
    let here : test x ≡ true = ap test (sym is) ∙ passes in
    let first : filter test (x ∷ es) ≡ x ∷ filter test es = ap (λ b. cond {A = List (Entry C)} b (x ∷ filter test es) (filter test es)) here in
    omega (arith, ap greatest_value first, greatest_from (max 0 x.value) (map (λ y. y.value) (filter test es)), ap (λ y. y.value) is)
kept_value {C} test (x ∷ es) (suc i) e lt is passes =
    let later = kept_value test es i e (omega arith) is passes in
    elim (test x) as (λ b. e.value ≤ greatest_value (cond {A = List (Entry C)} b (x ∷ filter test es) (filter test es))) [
      | true ↦ omega (arith, greatest_from (max 0 x.value) (map (λ y. y.value) (filter test es)))
      | false ↦ later
    ]

-- an element found among those that pass is one of them, and passes
found_kept : {C : Type 0} (test asked : Entry C → Bool) (es : List (Entry C)) (e : Entry C) → find asked (filter test es) ≡ Some e → (IsAmong es e) × (test e ≡ true)
found_kept test asked [] e is = absurd cc
found_kept {C} test asked (x ∷ es) e is =
    let later : find asked (filter test es) ≡ Some e → (IsAmong (x ∷ es) e) × (test e ≡ true) = λ h. let r = found_kept test asked es e h in ((suc r.0.0, (omega (arith, r.0.1.0), r.0.1.1)), r.1) in
    elim (test x) as (λ b. test x ≡ b → find asked (cond {A = List (Entry C)} b (x ∷ filter test es) (filter test es)) ≡ Some e → (IsAmong (x ∷ es) e) × (test e ≡ true)) [
      | true ↦ λ passes. elim (asked x) as (λ b. cond {A = Option (Entry C)} b (Some x) (find asked (filter test es)) ≡ Some e → (IsAmong (x ∷ es) e) × (test e ≡ true)) [
        | true ↦ λ here. let one : x ≡ e = cc in ((0, (omega arith, sym one)), ap test (sym one) ∙ passes)
        | false ↦ λ h. later h
      ]
      | false ↦ λ fails h. later h
    ] refl is

-- ---- rows of lists

-- The first of a row is that of one of its lists, and no list before that has its value.
pub record IsFirstOf {C : Type 0} (f : ℕ → List (Entry C)) (a n : ℕ) (e : Entry C) (k : ℕ) : Type 0 where
  pub low : a ≤ k
  pub high : k < a + n
  pub first : first_greatest (f k) ≡ Some e
  pub less : (j : ℕ) → a ≤ j → j < k → greatest_value (f j) < e.value

pub row_first : {C : Type 0} (f : ℕ → List (Entry C)) (a n : ℕ) (e : Entry C) → first_greatest (flat_map f (range_with_len a n)) ≡ Some e → (k : ℕ) × IsFirstOf f a n e k
row_first f a zero e is = absurd cc
row_first {C} f a (suc n) e is =
    let rest : List (Entry C) = flat_map f (range_with_len (a + 1) n) in
    let both : greater (first_greatest (f a)) (first_greatest rest) ≡ Some e = sym (first-append (f a) rest) ∙ is in
    elim (cases_lt (value_of (first_greatest (f a))) (value_of (first_greatest rest))) [
      | inl lt ↦
          let later : first_greatest rest ≡ Some e = sym (greater_second (first_greatest (f a)) (first_greatest rest) lt) ∙ both in
          let r = row_first f (a + 1) n e later in
          let value : value_of (first_greatest rest) ≡ e.value = ap value_of later in (
            r.0,
            record {
              low = omega (arith, r.1.low);
              high = omega (arith, r.1.high);
              first = r.1.first;
              less = λ j low high. elim (cases_eq j a) [
                | inl at ↦ omega (arith, value_of-first (f a), ap (λ (x : ℕ). greatest_value (f x)) at)
                | inr apart ↦ r.1.less j (omega arith) high
              ];
            },
          )
      | inr le ↦ (
        a,
        record {
          low = omega arith;
          high = omega arith;
          first = sym (greater_first (first_greatest (f a)) (first_greatest rest) le) ∙ both;
          less = λ j low high. absurd (omega arith);
        },
      )
    ]

-- ---- entries that bear

-- the entries of the key that occurs there
pub bearing_is : {C : Type 0} (keys : Patterns C) (framed : List ℕ) (p start end : ℕ) (entries : List (Entry C)) → keys (slice_range framed start end) ≡ Some entries → bearers_between keys framed p start end ≡ filter (λ entry. start + entry.place == p + 1) entries
bearing_is {C} keys framed p start end entries is = ap (λ (o : Option (List (Entry C))). filter (λ entry. start + entry.place == p + 1) (unwrap_or o [])) is

-- the values that bear, from one occurrence up to all
pub bears_value : {C : Type 0} (keys : Patterns C) (word : List ℕ) (p start end : ℕ) (entry : Entry C) → Bears keys word p start end entry → entry.value ≤ greatest_value (bearers_between keys (frame word) p start end)
bears_value keys word p start end entry bears =
    let passes : (start + entry.place == p + 1) ≡ true = eq-eqb (start + entry.place) (p + 1) bears.place in
    let kept = kept_value (λ e. start + e.place == p + 1) bears.entries bears.among.0 entry bears.among.1.0 bears.among.1.1 passes in
    omega (arith, ap greatest_value (bearing_is keys (frame word) p start end bears.entries bears.key))

pub bears_from : {C : Type 0} (keys : Patterns C) (word : List ℕ) (p start end : ℕ) (entry : Entry C) → Bears keys word p start end entry → entry.value ≤ greatest_value (bearers_from keys (frame word) p start)
bears_from keys word p start end entry bears =
    omega (arith, bears_value keys word p start end entry bears, row_value (λ e. bearers_between keys (frame word) p start e) (start + 1) (length (frame word) - start) end (omega (arith, bears.not_empty)) (omega (arith, bears.not_empty, bears.within)))

pub bears_at : {C : Type 0} (keys : Patterns C) (word : List ℕ) (p start end : ℕ) (entry : Entry C) → Bears keys word p start end entry → entry.value ≤ value_at keys word p
bears_at keys word p start end entry bears =
    omega (arith, bears_from keys word p start end entry bears, row_value (λ s. bearers_from keys (frame word) p s) 0 (length (frame word)) start (omega arith) (omega (arith, bears.not_empty, bears.within)))

-- the first of an occurrence bears
first_bears : {C : Type 0} (keys : Patterns C) (word : List ℕ) (p start end : ℕ) (entry : Entry C) → start < end → end ≤ length (frame word) → first_greatest (bearers_between keys (frame word) p start end) ≡ Some entry → Bears keys word p start end entry
first_bears {C} keys word p start end entry some within is =
    let v = first_value (bearers_between keys (frame word) p start end) entry is in
    let f = first_some (bearers_between keys (frame word) p start end) (omega arith) in
    let one : f.0 ≡ entry = let both : Some f.0 ≡ Some entry = sym f.1 ∙ is in cc in
    let found : find (λ x. x.value == greatest_value (bearers_between keys (frame word) p start end)) (bearers_between keys (frame word) p start end) ≡ Some entry = f.2 ∙ ap (λ x. Some x) one in
    elim (keys (slice_range (frame word) start end)) as (λ o. keys (slice_range (frame word) start end) ≡ o → find (λ x. x.value == greatest_value (bearers_between keys (frame word) p start end)) (filter (λ e. start + e.place == p + 1) (unwrap_or o [])) ≡ Some entry → Bears keys word p start end entry) [
      | None ↦ λ e h. absurd cc
      | Some entries ↦ λ e h.
          let kept = found_kept (λ e. start + e.place == p + 1) (λ x. x.value == greatest_value (bearers_between keys (frame word) p start end)) entries entry h in
          record { not_empty = some; within = within; entries = entries; key = e; among = kept.0; place = eqb-true (start + entry.place) (p + 1) kept.1 }
    ] refl found

-- the winner wins, and is the first greatest of its key's entries
pub winner_found : {C : Type 0} (keys : Patterns C) (word : List ℕ) (p : ℕ) (entry : Entry C) → winner_at keys word p ≡ Some entry → (start : ℕ) × (end : ℕ) × (Wins keys word p start end entry) × (first_greatest (bearers_between keys (frame word) p start end) ≡ Some entry)
winner_found keys word p entry is =
    let value : entry.value ≡ value_at keys word p = sym (ap value_of is) ∙ value_of-first (bearers keys (frame word) p) in
    let s = row_first (λ start. bearers_from keys (frame word) p start) 0 (length (frame word)) entry is in
    let e = row_first (λ end. bearers_between keys (frame word) p s.0 end) (s.0 + 1) (length (frame word) - s.0) entry s.1.first in
    let some : s.0 < e.0 = omega (arith, e.1.low) in
    let within : e.0 ≤ length (frame word) = omega (arith, e.1.high, s.1.high) in (
      s.0,
      e.0,
      record {
        bears = first_bears keys word p s.0 e.0 entry some within e.1.first;
        most = λ start end other bears. omega (arith, bears_at keys word p start end other bears);
        before = λ start end other bears same. elim (cases_lt start s.0) [
          | inl lt ↦ absurd (omega (arith, bears_from keys word p start end other bears, s.1.less start (omega arith) lt))
          | inr le ↦ elim (cases_eq s.0 start) [
            | inr apart ↦ inl (omega arith)
            | inl at ↦ elim (cases_lt end e.0) [
              | inr ge ↦ inr (at, ge)
              | inl shorter ↦ absurd (omega (arith, ap (λ (x : ℕ). greatest_value (bearers_between keys (frame word) p x end)) at, bears_value keys word p start end other bears, bears.not_empty, e.1.less end (omega (arith, bears.not_empty)) shorter))
            ]
          ]
        ];
      },
      e.1.first,
    )

pub winner_wins : {C : Type 0} (keys : Patterns C) (word : List ℕ) (p : ℕ) (entry : Entry C) → winner_at keys word p ≡ Some entry → (start : ℕ) × (end : ℕ) × (Wins keys word p start end entry) × (entry.value ≡ value_at keys word p)
winner_wins keys word p entry is =
    let won = winner_found keys word p entry is in
    (won.0, won.1, won.2, sym (ap value_of is) ∙ value_of-first (bearers keys (frame word) p))

pub value_borne : {C : Type 0} (keys : Patterns C) (word : List ℕ) (p : ℕ) → (value_at keys word p ≡ 0) ⊎ ((start : ℕ) × (end : ℕ) × (entry : Entry C) × (Bears keys word p start end entry) × (entry.value ≡ value_at keys word p))
value_borne keys word p = elim (cases_eq (value_at keys word p) 0) [
  | inl nil ↦ inl nil
  | inr some ↦
      let f = first_some (bearers keys (frame word) p) (omega arith) in
      let w = winner_wins keys word p f.0 f.1 in
      inr (w.0, w.1, f.0, w.2.bears, w.3)
]

-- without a winner the value is 0
pub missing_value : {C : Type 0} (keys : Patterns C) (word : List ℕ) (p : ℕ) → winner_at keys word p ≡ None → value_at keys word p ≡ 0
missing_value keys word p is = sym (value_of-first (bearers keys (frame word) p)) ∙ ap value_of is

-- two occurrences that come before each other are equal
both_before : (start end other_start other_end : ℕ) → Before start end other_start other_end → Before other_start other_end start end → (other_start ≡ start) × (other_end ≡ end)
both_before start end other_start other_end one two = elim one [
  | inl less ↦ elim two [ inl more ↦ absurd (omega arith) | inr at ↦ absurd (omega (arith, at.0)) ]
  | inr at ↦ elim two [ inl more ↦ absurd (omega (arith, at.0)) | inr to ↦ (to.0, omega (arith, at.1, to.1)) ]
]

-- the only entry that wins is the winner
pub only_winner : {C : Type 0} (keys : Patterns C) (word : List ℕ) (p start end : ℕ) (entry : Entry C) → 0 < entry.value → Wins keys word p start end entry → ((other : Entry C) → Bears keys word p start end other → other ≡ entry) → winner_at keys word p ≡ Some entry
only_winner {C} keys word p start end entry pos wins only =
    let most = bears_at keys word p start end entry wins.bears in
    let f = first_some (bearers keys (frame word) p) (omega arith) in
    let w = winner_wins keys word p f.0 f.1 in
    let same : f.0.value ≡ entry.value = omega (arith, wins.most w.0 w.1 f.0 w.2.bears, w.2.most start end entry wins.bears) in
    let at = both_before start end w.0 w.1 (wins.before w.0 w.1 f.0 w.2.bears same) (w.2.before start end entry wins.bears (sym same)) in
    let here : Bears keys word p start end f.0 = subst (λ (x : ℕ). Bears keys word p start x f.0) at.1 (subst (λ (x : ℕ). Bears keys word p x w.1 f.0) at.0 w.2.bears) in
    f.1 ∙ ap (λ x. Some x) (only f.0 here)

-- ---- the best of all pairs

-- the best of all pairs is the winner
pub best_wins : {C : Type 0} (keys : Patterns C) (word : List ℕ) (p s e : ℕ) (entry : Entry C) → IsBest keys (frame word) p (IsPair (frame word)) s e entry → winner_at keys word p ≡ Some entry
best_wins {C} keys word p s e entry best =
    let bears = first_bears keys word p s e entry best.pair.0 best.pair.1 best.first in
    let v = first_value (bearers_between keys (frame word) p s e) entry best.first in
    let f = first_some (bearers keys (frame word) p) (omega (arith, bears_at keys word p s e entry bears)) in
    let w = winner_found keys word p f.0 f.1 in
    let pair : IsPair (frame word) w.0 w.1 = (w.2.bears.not_empty, w.2.bears.within) in
    let value = first_value (bearers_between keys (frame word) p w.0 w.1) f.0 w.3 in
    let same : entry.value ≡ f.0.value = omega (arith, w.2.most s e entry bears, best.most w.0 w.1 pair) in
    let at = both_before s e w.0 w.1 (best.before w.0 w.1 pair (omega arith)) (w.2.before s e entry bears same) in
    f.1 ∙ sym w.3 ∙ ap (λ (x : ℕ). first_greatest (bearers_between keys (frame word) p x w.1)) at.0 ∙ ap (λ (x : ℕ). first_greatest (bearers_between keys (frame word) p s x)) at.1 ∙ best.first

-- there is no winner if no pair gives a value
pub none_wins : {C : Type 0} (keys : Patterns C) (word : List ℕ) (p : ℕ) → ((s e : ℕ) → IsPair (frame word) s e → greatest_value (bearers_between keys (frame word) p s e) ≡ 0) → winner_at keys word p ≡ None
none_wins keys word p none =
    let all = greatest_value-within (λ start. bearers_from keys (frame word) p start) 0 (length (frame word)) 0 (λ s low high. greatest_value-within (λ end. bearers_between keys (frame word) p s end) (s + 1) (length (frame word) - s) 0 (λ e elow ehigh. let h = none s e (omega arith, omega arith) in omega arith)) in
    first_none (bearers keys (frame word) p) (omega arith)
