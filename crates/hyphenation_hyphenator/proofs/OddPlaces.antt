-- Places with odd values are the breaks that patterns allow, where no winner carries a change.
use Rattle.std.proofs.Common.{◌≡◌, ◌≢◌, ◌%◌, ◌&&◌, nat_le, ℕ, zero, suc, ◌+◌, ◌-◌, ◌<◌, ◌≤◌, ◌⊎◌, Bool, true, false, cond, List, [], ◌∷◌, ◌++◌, length, map, filter, max, min, set, take, Option, Some, None, refl, sym, ap, ◌∙◌, arith, inl, inr}
use Rattle.std.specs.List.{range_with_len, slice_index}
use Rattle.std.specs.Option.{option_and_then}
use Rattle.std.proofs.Math.Bool.{and-false, and-true}
use Rattle.std.proofs.lemmas.Bool.{cases_eq, cases_lt, le-leb, lt-leb}
use Rattle.std.proofs.lemmas.List.{append-nil, get_or_past, map-append, take-set, take_more_set}
use Rattle.std.proofs.lemmas.List.Elements.{filter-append}
use Rattle.std.proofs.lemmas.List.FromFn.{get_or-map-range_with_len, length-map-range_with_len}
use Rattle.hyphenation_breaks.specs.Break.{Break, Change, plain_break, break_at}
use Rattle.hyphenation_breaks.specs.Dictionary.{Patterns}
use Rattle.hyphenation_breaks.specs.declared.entry.Entry.{Entry}
use Rattle.hyphenation_hyphenator.specs.Opportunities.{is_odd, no_change, within, breaks_within, winning_break, breaks_at_odd_values}
use Rattle.hyphenation_score.specs.Scoring.{value_at, values, winner_at}

pub none_of : (test : ℕ → Bool) (a n : ℕ) → ((p : ℕ) → a ≤ p → p < a + n → test p ≡ false) → filter test (range_with_len a n) ≡ []
none_of test a zero h = refl
none_of test a (suc n) h = rw (h a (omega arith) (omega arith)) (none_of test (a + 1) n (λ p low high. h p (omega arith) (omega arith)))

range-append : (a m n : ℕ) → range_with_len a (m + n) ≡ range_with_len a m ++ range_with_len (a + m) n
range-append a zero n = ap (range_with_len a) (omega arith) ∙ ap (λ (k : ℕ). range_with_len k n) (omega arith)
range-append a (suc m) n =
    let one : suc m + n ≡ suc (m + n) = omega arith in
    let two : (a + 1) + m ≡ a + suc m = omega arith in
    ap (range_with_len a) one ∙ ap (λ (zs : List ℕ). a ∷ zs) (range-append (a + 1) m n ∙ ap (λ (k : ℕ). range_with_len (a + 1) m ++ range_with_len k n) two)

pub parts : (test : ℕ → Bool) (a m n : ℕ) → filter test (range_with_len a (m + n)) ≡ filter test (range_with_len a m) ++ filter test (range_with_len (a + m) n)
parts test a m n = ap (filter test) (range-append a m n) ∙ filter-append test (range_with_len a m) (range_with_len (a + m) n)

-- No place before the first or after the end passes the test.
pub within_alone : (test : ℕ → Bool) (first end at len : ℕ) → 1 ≤ first → end ≤ len → first ≤ at → end + 1 ≤ at → (first ≤ end + 1 → at ≤ end + 1)
    → ((p : ℕ) → 1 ≤ p → (p < first) ⊎ (end < p) → test p ≡ false)
    → filter test (range_with_len first (at - first)) ≡ filter test (range_with_len 1 len)
within_alone test first end at len one le low after ends none = elim (cases_lt end first) [
  | inl lt ↦
      none_of test first (at - first) (λ p l h. none p (omega arith) (inr (omega arith)))
      ∙ sym (none_of test 1 len (λ p l h. elim (cases_lt p first) [ inl early ↦ none p l (inl early) | inr late ↦ none p l (inr (omega arith)) ]))
  | inr ge ↦
      let stop : at ≡ end + 1 = let most = ends (omega arith) in omega arith in
      let n1 : ℕ = first - 1 in
      let n2 : ℕ = at - first in
      let n3 : ℕ = len - end in
      let sum : len ≡ n1 + (n2 + n3) = omega arith in
      let second : 1 + n1 ≡ first = omega arith in
      let third : first + n2 ≡ end + 1 = omega arith in
      let front : filter test (range_with_len 1 n1) ≡ [] = none_of test 1 n1 (λ p l h. none p l (inl (omega arith))) in
      let back : filter test (range_with_len (end + 1) n3) ≡ [] = none_of test (end + 1) n3 (λ p l h. none p (omega arith) (inr (omega arith))) in
      sym (ap (λ n. filter test (range_with_len 1 n)) sum ∙ parts test 1 n1 (n2 + n3) ∙ ap (λ xs. xs ++ filter test (range_with_len (1 + n1) (n2 + n3))) front
      ∙ ap (λ a. filter test (range_with_len a (n2 + n3))) second ∙ parts test first n2 n3
      ∙ ap (λ a. filter test (range_with_len first n2) ++ filter test (range_with_len a n3)) third ∙ ap (λ xs. filter test (range_with_len first n2) ++ xs) back
      ∙ append-nil (filter test (range_with_len first n2)))
]

abbrev pub test_of : List ℕ → ℕ × ℕ → ℕ → Bool
test_of values bounds place = is_odd (slice_index values (place - 1)) && within bounds place

pub not_within : (low high p : ℕ) (b : Bool) → (p < low) ⊎ (high < p) → (b && (nat_le low p && nat_le p high)) ≡ false
not_within low high p b (inl h) = rw (lt-leb low p h) (and-false b)
not_within low high p b (inr h) = rw (lt-leb p high h, and-false (nat_le low p)) (and-false b)

pub is_within : (low high p : ℕ) → low ≤ p → p ≤ high → (nat_le low p && nat_le p high) ≡ true
is_within low high p a b = rw (le-leb low p a, le-leb p high b) refl

pub outside : (values : List ℕ) (bounds : ℕ × ℕ) (first end p : ℕ) → first ≡ max bounds.0 1 → end ≡ min (length values) bounds.1 → 1 ≤ p → (p < first) ⊎ (end < p) → test_of values bounds p ≡ false
outside values bounds first end p is_first is_end one (inl early) = not_within bounds.0 bounds.1 p _ (inl (omega arith))
outside values bounds first end p is_first is_end one (inr late) = elim (cases_lt bounds.1 p) [
  | inl after ↦ not_within bounds.0 bounds.1 p _ (inr after)
  | inr before ↦ ap (λ v. is_odd v && within bounds p) (get_or_past values (p - 1) 0 (omega arith))
]

-- One more place of a list that is filtered.
filtered_more : (test : ℕ → Bool) (first n : ℕ) → filter test (range_with_len first (n + 1)) ≡ filter test (range_with_len first n) ++ cond (test (first + n)) ((first + n) ∷ []) []
filtered_more test first n = ap (filter test) (range-append first n 1) ∙ filter-append test (range_with_len first n) ((first + n) ∷ [])

next_is : (values items : List ℕ) (bounds : ℕ × ℕ) (first end at : ℕ) (is : Bool) → first ≡ max bounds.0 1 → end ≡ min (length values) bounds.1 → first ≤ at → at ≤ end
    → items ≡ filter (test_of values bounds) (range_with_len first (at - first))
    → is ≡ is_odd (slice_index values (at - 1))
    → items ++ cond is (at ∷ []) [] ≡ filter (test_of values bounds) (range_with_len first ((at + 1) - first))
next_is values items bounds first end at is is_first is_end low high before here =
    let test = test_of values bounds in
    let n : ℕ = at - first in
    let more : (at + 1) - first ≡ n + 1 = omega arith in
    let sum : first + n ≡ at = omega arith in
    let same : is ≡ test at = here ∙ sym (and-true (is_odd (slice_index values (at - 1)))) ∙ ap (λ b. is_odd (slice_index values (at - 1)) && b) (sym (is_within bounds.0 bounds.1 at (omega arith) (omega arith))) in
    ap (λ xs. xs ++ cond is (at ∷ []) []) before ∙ ap (λ b. filter test (range_with_len first n) ++ cond b (at ∷ []) []) same
    ∙ ap (λ k. filter test (range_with_len first n) ++ cond (test k) (k ∷ []) []) (sym sum) ∙ sym (filtered_more test first n) ∙ ap (λ k. filter test (range_with_len first k)) (sym more)

odd_is : (v : ℕ) → v % 2 ≡ 1 → true ≡ is_odd v
odd_is v h = grind (arith)

even_is : (v : ℕ) → v % 2 ≢ 1 → false ≡ is_odd v
even_is v h = grind (arith)

pub next_odd : (values items : List ℕ) (bounds : ℕ × ℕ) (first end at : ℕ) → first ≡ max bounds.0 1 → end ≡ min (length values) bounds.1 → first ≤ at → at ≤ end
    → items ≡ filter (test_of values bounds) (range_with_len first (at - first)) → slice_index values (at - 1) % 2 ≡ 1
    → items ++ at ∷ [] ≡ filter (test_of values bounds) (range_with_len first ((at + 1) - first))
next_odd values items bounds first end at a b low high before h = next_is values items bounds first end at true a b low high before (odd_is _ h)

pub next_even : (values items : List ℕ) (bounds : ℕ × ℕ) (first end at : ℕ) → first ≡ max bounds.0 1 → end ≡ min (length values) bounds.1 → first ≤ at → at ≤ end
    → items ≡ filter (test_of values bounds) (range_with_len first (at - first)) → slice_index values (at - 1) % 2 ≢ 1
    → items ≡ filter (test_of values bounds) (range_with_len first ((at + 1) - first))
next_even values items bounds first end at a b low high before h = sym (append-nil items) ∙ next_is values items bounds first end at false a b low high before (even_is _ h)

-- Each place is written, and kept if its value is odd.
kept_if_odd : (found : List ℕ) (count at v : ℕ) → count < length found → take (count + v % 2) (set found count at) ≡ take count found ++ cond (is_odd v) (at ∷ []) []
kept_if_odd found count at v room = elim (cases_eq (v % 2) 1) [
  | inl odd ↦ rw (sym (odd_is v odd), odd) (take_more_set found count at room)
  | inr even ↦
      let none : v % 2 ≡ 0 = grind (arith) in
      let same : count + v % 2 ≡ count = omega (arith, none) in
      rw (sym (even_is v even), same) (take-set found count at ∙ sym (append-nil (take count found)))
]

pub next_written : (values found : List ℕ) (bounds : ℕ × ℕ) (first end at count : ℕ) → first ≡ max bounds.0 1 → end ≡ min (length values) bounds.1 → first ≤ at → at ≤ end
    → count < length found → take count found ≡ filter (test_of values bounds) (range_with_len first (at - first))
    → take (count + slice_index values (at - 1) % 2) (set found count at) ≡ filter (test_of values bounds) (range_with_len first ((at + 1) - first))
next_written values found bounds first end at count is_first is_end low high room before =
    kept_if_odd found count at (slice_index values (at - 1)) room
    ∙ next_is values (take count found) bounds first end at (is_odd (slice_index values (at - 1))) is_first is_end low high before refl

-- Places of even values do not pass.
pub even_none : (values : List ℕ) (bounds : ℕ × ℕ) (first least : ℕ) → ((p : ℕ) → first ≤ p → p < least → slice_index values (p - 1) % 2 ≢ 1)
    → [] ≡ filter (test_of values bounds) (range_with_len first (least - first))
even_none values bounds first least even =
    sym (none_of (test_of values bounds) first (least - first) (λ p low high. ap (λ b. b && within bounds p) (sym (even_is _ (even p low (omega arith))))))

-- ---- as breaks

same_breaks : (test odd : ℕ → Bool) (break_to : ℕ → Break) (bounds : ℕ × ℕ) → ((p : ℕ) → (break_to p).place ≡ p) → (first n : ℕ)
    → ((p : ℕ) → first ≤ p → p < first + n → test p ≡ (odd p && within bounds p))
    → ((p : ℕ) → first ≤ p → p < first + n → test p ≡ true → break_to p ≡ plain_break p)
    → map plain_break (filter test (range_with_len first n)) ≡ breaks_within (map break_to (filter odd (range_with_len first n))) bounds
same_breaks test odd break_to bounds placed first zero agree plain = refl
same_breaks test odd break_to bounds placed first (suc n) agree plain =
    let front = filter test (range_with_len (first + 1) n) in
    let back = filter odd (range_with_len (first + 1) n) in
    let after = breaks_within (map break_to back) bounds in
    let rest : map plain_break front ≡ after = same_breaks test odd break_to bounds placed (first + 1) n (λ p l h. agree p (omega arith) (omega arith)) (λ p l h. plain p (omega arith) (omega arith)) in
    let here : test first ≡ (odd first && within bounds first) = agree first (omega arith) (omega arith) in
    let at : test first ≡ true → break_to first ≡ plain_break first = plain first (omega arith) (omega arith) in
    ap (λ t. map plain_break (cond t (first ∷ front) front)) here
    ∙ elim (odd first) as (λ o. test first ≡ (o && within bounds first) → map plain_break (cond (o && within bounds first) (first ∷ front) front) ≡ breaks_within (map break_to (cond o (first ∷ back) back)) bounds) [
      | true ↦ λ inside.
          elim (within bounds first) as (λ w. test first ≡ w → map plain_break (cond w (first ∷ front) front) ≡ cond w (break_to first ∷ after) after) [
            | true ↦ λ passes. ap (λ bs. plain_break first ∷ bs) rest ∙ ap (λ b. b ∷ after) (sym (at passes))
            | false ↦ λ _. rest
          ] inside
          ∙ ap (λ p. cond (within bounds p) (break_to first ∷ after) after) (sym (placed first))
      | false ↦ λ _. rest
    ] here

-- One more plain break.
pub plain_next : {X : Type 0} (m : X → Break) (items : List X) (places : List ℕ) (b : X) (at : ℕ)
    → map m items ≡ map plain_break places → m b ≡ plain_break at → map m (items ++ b ∷ []) ≡ map plain_break (places ++ at ∷ [])
plain_next m items places b at before is =
    map-append m items (b ∷ []) ∙ ap (λ bs. bs ++ m b ∷ []) before ∙ ap (λ p. map plain_break places ++ p ∷ []) is ∙ sym (map-append plain_break places (at ∷ []))

-- No winner carries a change, where no entry does.
pub winners_have_no_change : {C : Type 0} (keys : Patterns C) (word : List ℕ) (p : ℕ) → option_and_then (λ entry. no_change entry.change) (winner_at keys word p) ≡ None
winners_have_no_change {C} keys word p = elim (winner_at keys word p) as (λ winner. option_and_then (λ (entry : Entry C). no_change entry.change) winner ≡ None) [ None ↦ refl | Some entry ↦ refl ]

-- Places with odd values within bounds are the breaks that the keys allow, where their winners carry no change.
pub places_allowed : {C : Type 0} (change_of : C → Option Change) (keys : Patterns C) (word : List ℕ) (bounds : ℕ × ℕ)
    → ((p : ℕ) → 1 ≤ p → p < length word → test_of (values keys word) bounds p ≡ true → option_and_then (λ entry. change_of entry.change) (winner_at keys word p) ≡ None)
    → map plain_break (filter (test_of (values keys word) bounds) (range_with_len 1 (length (values keys word)))) ≡ breaks_within (breaks_at_odd_values change_of keys word) bounds
unfolding breaks_at_odd_values
places_allowed change_of keys word bounds none =
    let n = length word - 1 in
    let test : ℕ → Bool = test_of (values keys word) bounds in
    let count : length (values keys word) ≡ n = length-map-range_with_len (λ p. value_at keys word p) 1 n in
    ap (λ m. map plain_break (filter test (range_with_len 1 m))) count
    ∙ same_breaks test (λ place. is_odd (value_at keys word place)) (winning_break change_of keys word) bounds (λ _. refl) 1 n
    (λ p l h. ap (λ v. is_odd v && within bounds p) (get_or-map-range_with_len (λ q. value_at keys word q) 1 n (p - 1) p 0 (omega arith) (omega arith)))
    (λ p l h passes. ap (break_at p) (none p l (omega arith) passes))
