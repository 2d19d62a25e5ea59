-- The values and the winners of places whose entries are met by the ends of their keys.
use Rattle.std.proofs.Common.{◌≡◌, ℕ, zero, suc, ◌+◌, ◌-◌, ◌<◌, ◌≤◌, ◌==◌, max, Bool, true, false, not, cond, ◌&&◌, ◌||◌, eqb, ltb, List, [], ◌∷◌, length, map, filter, get_or, slice_index, Option, Bor, option_copied, Some, None, refl, sym, ap, ◌∙◌, arith, inl, inr, ◌⊎◌}
use Rattle.std.specs.Option.{option_or}
use Rattle.std.specs.Prelude.{slice_range, unwrap_or}
use Rattle.std.specs.List.{find, flat_map, fold, range_with_len, slice_index_or, All, IsAmong}
use Rattle.std.proofs.lemmas.Bool.{cases_eq, lt-ltb, le-ltb, eqb-true, eq-eqb, ne_eqb}
use Rattle.std.proofs.lemmas.List.{length-map, get_or-map, ext_get_or}
use Rattle.std.proofs.lemmas.List.Folds.{find-append, fold-map}
use Rattle.std.proofs.lemmas.List.FromFn.{length-map-range_with_len, get_or-map-range_with_len}
use Rattle.hyphenation_breaks.specs.Dictionary.{Patterns}
use Rattle.hyphenation_breaks.specs.Ranks.{plain_rank}
use Rattle.hyphenation_breaks.specs.declared.entry.Entry.{Entry}
use Rattle.hyphenation_score.specs.Scoring.{frame, bearers_between, bearers, greatest_value, first_greatest, value_at, values, winner_at, winners}
use Rattle.hyphenation_score.specs.Winners.{Bears, Wins}
use Rattle.hyphenation_score.specs.Private.OnePass.{bearers_to, bearers_by_ends, AreAfter}
use Rattle.hyphenation_score.specs.Private.Winners.{beats_best, better}
use Rattle.hyphenation_score.proofs.GreatestValues.{greatest_from}
use Rattle.hyphenation_score.proofs.OnePass.{by_ends, length-frame}
use Rattle.hyphenation_score.proofs.FirstGreatest.{first_value}
use Rattle.hyphenation_score.proofs.WinnerPlaces.{winner_found, missing_value}

-- ---- values

pub values_met : {C : Type 0} (keys : Patterns C) (word old new : List ℕ) → length old ≡ length word - 1 → length new ≡ length old → ((i : ℕ) → i < length old → slice_index old i ≡ 0)
    → AreAfter (λ v. v) (λ v e. max v e.value) old (bearers_by_ends keys (frame word) (length word + 2)) new → new ≡ values keys word
values_met {C} keys word old new places len zeros met =
    let n : ℕ = length word - 1 in
    ext_get_or 0 new (map (λ p. value_at keys word p) (range_with_len 1 n)) (len ∙ places ∙ sym (length-map-range_with_len (λ p. value_at keys word p) 1 n))
    (λ i lt.
    let es : List (Entry C) = bearers_by_ends keys (frame word) (length word + 2) (i + 1) in
    met i 0 (omega (arith, lt, len)) ∙ ap (λ (v : ℕ). fold (λ v e. max v e.value) v es) (zeros i (omega (arith, lt, len))) ∙ sym (fold-map max (λ (e : Entry C). e.value) 0 es)
    ∙ ap (λ (k : ℕ). greatest_value (bearers_by_ends keys (frame word) k (i + 1))) (sym (length-frame word)) ∙ by_ends plain_rank keys (frame word) (i + 1)
    ∙ sym (get_or-map-range_with_len (λ p. value_at keys word p) 1 n i (i + 1) 0 (omega (arith, lt, len)) (omega arith)))

-- ---- elements of lists

find_same : {X : Type 0} (t u : X → Bool) (xs : List X) → All (λ x. t x ≡ u x) xs → find t xs ≡ find u xs
find_same t u [] same = refl
find_same t u (x ∷ xs) same = ap (λ b. cond b (Some x) (find t xs)) (same 0 x (omega arith)) ∙ ap (cond (u x) (Some x)) (find_same t u xs (λ k d lt. same (suc k) d (omega arith)))

find_none : {X : Type 0} (t : X → Bool) (xs : List X) → All (λ x. t x ≡ false) xs → find t xs ≡ None
find_none t [] none = refl
find_none t (x ∷ xs) none = ap (λ b. cond b (Some x) (find t xs)) (none 0 x (omega arith)) ∙ find_none t xs (λ k d lt. none (suc k) d (omega arith))

all_kept : {X : Type 0} (q : X → Bool) (P : X → Type 0) (xs : List X) → ((x : X) → IsAmong xs x → q x ≡ true → P x) → All P (filter q xs)
all_kept q P [] each = λ k d lt. absurd (omega arith)
all_kept {X} q P (x ∷ xs) each =
    let rest = all_kept q P xs (λ y among passes. each y (suc among.0, (omega (arith, among.1.0), among.1.1)) passes) in
    elim (q x) as (λ b. q x ≡ b → All P (cond {A = List X} b (x ∷ filter q xs) (filter q xs))) [
      | true ↦ λ passes k. elim k as (λ (k : ℕ). (d : X) → k < length (x ∷ filter q xs) → P (get_or (x ∷ filter q xs) k d)) [
        | zero ↦ λ d lt. each x (0, (omega arith, refl)) passes
        | suc k ↦ λ d lt. rest k d (omega arith)
      ]
      | false ↦ λ _. rest
    ] refl

module _ {X : Type 0} (t : X → Bool) (f : ℕ → List X) where
  row_none : (a n : ℕ) → ((k : ℕ) → a ≤ k → k < a + n → find t (f k) ≡ None) → find t (flat_map f (range_with_len a n)) ≡ None
  row_none a zero none = refl
  row_none a (suc n) none = find-append t (f a) (flat_map f (range_with_len (a + 1) n)) ∙ ap (λ o. option_or o (find t (flat_map f (range_with_len (a + 1) n)))) (none a (omega arith) (omega arith)) ∙ row_none (a + 1) n (λ k low high. none k (omega arith) (omega arith))

  row_first : (a n k : ℕ) (x : X) → a ≤ k → k < a + n → ((j : ℕ) → a ≤ j → j < k → find t (f j) ≡ None) → find t (f k) ≡ Some x → find t (flat_map f (range_with_len a n)) ≡ Some x
  row_first a zero k x low high none is = absurd (omega arith)
  row_first a (suc n) k x low high none is =
      let rest : List X = flat_map f (range_with_len (a + 1) n) in
      find-append t (f a) rest ∙ elim (cases_eq k a) [
        | inl here ↦ ap (λ o. option_or o (find t rest)) (ap (λ (j : ℕ). find t (f j)) (sym here) ∙ is)
        | inr apart ↦ ap (λ o. option_or o (find t rest)) (none a (omega arith) (omega arith)) ∙ row_first (a + 1) n k x (omega arith) (omega arith) (λ j jlow jhigh. none j (omega arith) jhigh) is
      ]

-- ---- the best of a list

-- no entry is best where all values are 0
best_none : {C : Type 0} (es : List (Entry C)) → greatest_value es ≡ 0 → fold better None es ≡ None
best_none [] nil = refl
best_none {C} (e ∷ es) nil =
    let most = greatest_from (max 0 e.value) (map (λ (x : Entry C). x.value) es) in
    ap (λ b. fold better (cond {A = Option (Entry C)} b (Some e) None) es) (le-ltb 0 e.value (omega arith)) ∙ best_none es (omega arith)

-- an entry stays best that no later one beats
best_stays : {C : Type 0} (w : Entry C) (es : List (Entry C)) → find (beats_best (Some w)) es ≡ None → fold better (Some w) es ≡ Some w
best_stays w [] none = refl
best_stays {C} w (e ∷ es) none = elim (beats_best (Some w) e) as (λ b. cond {A = Option (Entry C)} b (Some e) (find (beats_best (Some w)) es) ≡ None → fold better (cond {A = Option (Entry C)} b (Some e) (Some w)) es ≡ Some w) [
  | true ↦ λ is. absurd cc
  | false ↦ λ later. best_stays w es later
] none

-- the first entry that another does not beat is best, if none beats it
best_is : {C : Type 0} (w : Entry C) (now : Option (Entry C)) (es : List (Entry C)) → beats_best now w ≡ true → find (λ e. not (beats_best (Some e) w)) es ≡ Some w → find (beats_best (Some w)) es ≡ None → fold better now es ≡ Some w
best_is w now [] beats first none = absurd cc
best_is {C} w now (e ∷ es) beats first none =
    let later : find (beats_best (Some w)) es ≡ None = elim (beats_best (Some w) e) as (λ b. cond {A = Option (Entry C)} b (Some e) (find (beats_best (Some w)) es) ≡ None → find (beats_best (Some w)) es ≡ None) [ true ↦ λ is. absurd cc | false ↦ λ is. is ] none in
    elim (beats_best (Some e) w) as (λ b. beats_best (Some e) w ≡ b → cond {A = Option (Entry C)} (not b) (Some e) (find (λ e. not (beats_best (Some e) w)) es) ≡ Some w → fold better (better now e) es ≡ Some w) [
      | false ↦ λ _ here.
          let same : e ≡ w = cc in
          ap (λ x. fold better (better now x) es) same ∙ ap (λ b. fold better (cond {A = Option (Entry C)} b (Some w) now) es) beats ∙ best_stays w es later
      | true ↦ λ beaten more. elim (beats_best now e) as (λ b. fold better (cond {A = Option (Entry C)} b (Some e) now) es ≡ Some w) [
        | true ↦ best_is w (Some e) es beaten more later
        | false ↦ best_is w now es beats more later
      ]
    ] refl first

-- ---- winners

-- An entry beats another if its value is greater, or equal and its place is.
more_true : {C : Type 0} (a b : Entry C) → a.value ≤ b.value → (a.value ≡ b.value → a.place < b.place) → beats_best (Some a) b ≡ true
more_true a b le later = elim (cases_eq a.value b.value) [
  | inl same ↦ ap (λ (t : Bool). t || (eqb a.value b.value && ltb a.place b.place)) (le-ltb a.value b.value (omega arith)) ∙ ap (λ (t : Bool). t && ltb a.place b.place) (eq-eqb a.value b.value same) ∙ lt-ltb a.place b.place (later same)
  | inr apart ↦ ap (λ (t : Bool). t || (eqb a.value b.value && ltb a.place b.place)) (lt-ltb a.value b.value (omega arith))
]

-- It does not if its value is no greater, and where the values are equal its place is no greater.
more_false : {C : Type 0} (a b : Entry C) → b.value ≤ a.value → (a.value ≡ b.value → b.place ≤ a.place) → beats_best (Some a) b ≡ false
more_false a b le later = elim (cases_eq a.value b.value) [
  | inl same ↦ ap (λ (t : Bool). t || (eqb a.value b.value && ltb a.place b.place)) (le-ltb a.value b.value (omega arith)) ∙ ap (λ (t : Bool). t && ltb a.place b.place) (eq-eqb a.value b.value same) ∙ le-ltb a.place b.place (later same)
  | inr apart ↦ ap (λ (t : Bool). t || (eqb a.value b.value && ltb a.place b.place)) (le-ltb a.value b.value (omega arith)) ∙ ap (λ (t : Bool). t && ltb a.place b.place) (ne_eqb a.value b.value apart)
]

-- each entry that a pair gives bears on the place
all_bear : {C : Type 0} (keys : Patterns C) (word : List ℕ) (p s e : ℕ) → s < e → e ≤ length (frame word) → All (Bears keys word p s e) (bearers_between keys (frame word) p s e)
all_bear keys word p s e some within = elim (keys (slice_range (frame word) s e)) as (λ o. keys (slice_range (frame word) s e) ≡ o → All (Bears keys word p s e) (filter (λ entry. s + entry.place == p + 1) (unwrap_or o []))) [
  | None ↦ λ _ k d lt. absurd (omega arith)
  | Some entries ↦ λ is. all_kept (λ entry. s + entry.place == p + 1) (Bears keys word p s e) entries (λ x among passes. record { not_empty = some; within = within; entries = entries; key = is; among = among; place = eqb-true (s + x.place) (p + 1) passes })
] refl

-- the entry that wins is the best of those met
wins_met : {C : Type 0} (keys : Patterns C) (word : List ℕ) (p s e : ℕ) (w : Entry C) → Wins keys word p s e w → 0 < w.value → first_greatest (bearers_between keys (frame word) p s e) ≡ Some w
    → fold better None (bearers_by_ends keys (frame word) (length (frame word)) p) ≡ Some w
wins_met {C} keys word p s e w wins pos is =
    let framed : List ℕ = frame word in
    let n : ℕ = length framed in
    let unbeaten : Entry C → Bool = λ x. not (beats_best (Some x) w) in
    let within = wins.bears.within in
    let some = wins.bears.not_empty in
    -- no entry that bears beats the one that wins
    let below : find (beats_best (Some w)) (bearers_by_ends keys framed n p) ≡ None =
    row_none (beats_best (Some w)) (bearers_to keys framed p) 1 n (λ b blow bhigh. row_none (beats_best (Some w)) (λ a. bearers_between keys framed p a b) 0 b (λ a alow ahigh.
    find_none (beats_best (Some w)) (bearers_between keys framed p a b) (λ k d lt.
    let x = get_or (bearers_between keys framed p a b) k d in
    let bears = all_bear keys word p a b (omega arith) (omega arith) k d lt in
    more_false w x (wins.most a b x bears) (λ same. elim (wins.before a b x bears (sym same)) [ inl less ↦ omega (arith, bears.place, wins.bears.place) | inr level ↦ omega (arith, bears.place, wins.bears.place, level.0) ])))) in
    -- it beats those of keys that end before its own, or there and start before it
    let before : (a b : ℕ) → a < b → b ≤ n → (b < e) ⊎ ((b ≡ e) × (a < s)) → find unbeaten (bearers_between keys framed p a b) ≡ None = λ a b less high sooner.
    find_none unbeaten (bearers_between keys framed p a b) (λ k d lt.
    let x = get_or (bearers_between keys framed p a b) k d in
    let bears = all_bear keys word p a b less high k d lt in
    ap not (more_true x w (wins.most a b x bears) (λ same. elim (wins.before a b x bears same) [
      | inl first ↦ omega (arith, bears.place, wins.bears.place)
      | inr level ↦ absurd (elim sooner [ inl ends ↦ omega (arith, level.1) | inr starts ↦ omega (arith, level.0, starts.1) ])
    ]))) in
    -- of its own key's entries it is the first with the greatest value
    let here : find unbeaten (bearers_between keys framed p s e) ≡ Some w =
    find_same unbeaten (λ x. x.value == greatest_value (bearers_between keys framed p s e)) (bearers_between keys framed p s e) (λ k d lt.
    let x = get_or (bearers_between keys framed p s e) k d in
    let bears = all_bear keys word p s e some within k d lt in
    let most = wins.most s e x bears in
    let v = (first_value (bearers_between keys framed p s e) w is).0 in
    elim (cases_eq x.value w.value) [
      | inl same ↦ ap not (more_false x w (omega arith) (λ _. omega (arith, bears.place, wins.bears.place))) ∙ sym (eq-eqb x.value (greatest_value (bearers_between keys framed p s e)) (omega arith))
      | inr apart ↦ ap not (more_true x w most (λ same. absurd (apart same))) ∙ sym (ne_eqb x.value (greatest_value (bearers_between keys framed p s e)) (λ same. absurd (omega arith)))
    ]) ∙ sym (ap (λ b. cond {A = Option (Entry C)} b None (find (λ x. x.value == greatest_value (bearers_between keys framed p s e)) (bearers_between keys framed p s e))) (ne_eqb (greatest_value (bearers_between keys framed p s e)) 0 (λ nil. omega (arith, (first_value (bearers_between keys framed p s e) w is).0)))) ∙ is in
    best_is w None (bearers_by_ends keys framed n p) (lt-ltb 0 w.value pos)
    (row_first unbeaten (bearers_to keys framed p) 1 n e w (omega arith) (omega arith)
    (λ b blow bhigh. row_none unbeaten (λ a. bearers_between keys framed p a b) 0 b (λ a alow ahigh. before a b (omega arith) (omega arith) (inl bhigh)))
    (row_first unbeaten (λ a. bearers_between keys framed p a e) 0 e s w (omega arith) (omega arith) (λ a alow ahigh. before a e (omega arith) within (inr (refl, ahigh))) here)) below

-- the best of the entries that bear on a place, in the order of their ends, is the winner
best_met : {C : Type 0} (keys : Patterns C) (word : List ℕ) (p : ℕ) → fold better None (bearers_by_ends keys (frame word) (length (frame word)) p) ≡ winner_at keys word p
best_met {C} keys word p = elim (winner_at keys word p) as (λ o. winner_at keys word p ≡ o → fold better None (bearers_by_ends keys (frame word) (length (frame word)) p) ≡ o) [
  | None ↦ λ is. best_none (bearers_by_ends keys (frame word) (length (frame word)) p) (by_ends plain_rank keys (frame word) p ∙ missing_value keys word p is)
  | Some w ↦ λ is.
      let won = winner_found keys word p w is in
      wins_met keys word p won.0 won.1 w won.2 (first_value (bearers keys (frame word) p) w is).1 won.3
] refl

pub winners_met : {C : Type 0} (keys : Patterns C) (word : List ℕ) (old new : List (Option (Bor (Entry C)))) → length old ≡ length word - 1 → length new ≡ length old → ((i : ℕ) → i < length old → slice_index_or old i None ≡ None)
    → AreAfter option_copied better old (bearers_by_ends keys (frame word) (length word + 2)) new → map option_copied new ≡ winners keys word
winners_met {C} keys word old new places len none met =
    let n : ℕ = length word - 1 in
    ext_get_or None (map option_copied new) (map (λ p. winner_at keys word p) (range_with_len 1 n)) (length-map new option_copied ∙ len ∙ places ∙ sym (length-map-range_with_len (λ p. winner_at keys word p) 1 n))
    (λ i lt.
    let within : i < length new = omega (arith, lt, length-map new option_copied) in
    get_or-map option_copied new i None None within
    ∙ met i None (omega (arith, len)) ∙ ap (λ o. fold better (option_copied o) (bearers_by_ends keys (frame word) (length word + 2) (i + 1))) (none i (omega (arith, len)))
    ∙ ap (λ (k : ℕ). fold better None (bearers_by_ends keys (frame word) k (i + 1))) (sym (length-frame word)) ∙ best_met keys word (i + 1)
    ∙ sym (get_or-map-range_with_len (λ p. winner_at keys word p) 1 n i (i + 1) None (omega (arith, len)) (omega arith)))
