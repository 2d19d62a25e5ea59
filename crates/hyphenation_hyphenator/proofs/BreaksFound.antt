-- Steps of the loops that find, carry back and keep breaks.
use Rattle.std.proofs.Common.{◌≡◌, ℕ, zero, suc, ◌+◌, ◌-◌, ◌<◌, ◌≤◌, ◌&&◌, Bool, true, false, cond, nat_le, List, [], ◌∷◌, ◌++◌, length, map, filter, take, drop, get_or, min, Option, Some, None, refl, sym, ap, subst, ◌∙◌, arith, inl, inr}
use Rattle.std.specs.List.{slice_index_or, range_with_len}
use Rattle.std.specs.FinMap as finite
use Rattle.std.specs.Option.{IfSome, option_map, option_and_then}
use Rattle.std.specs.Str.{IsUtf8}
use Rattle.std.proofs.Math.Bool.{and-true}
use Rattle.std.proofs.Math.ListN.{set}
use Rattle.std.proofs.lemmas.List.{take_more, take_all, drop_all, map-append, map-set, get_or-map, append-nil}
use Rattle.std.proofs.lemmas.List.Edits.{map_over_more}
use Rattle.std.proofs.lemmas.List.Elements.{filter-append}
use Rattle.std.proofs.lemmas.List.FromFn.{get_or-map-range_with_len, length-map-range_with_len}
use Rattle.std.proofs.lemmas.List.Sums.{fold-append}
use Rattle.hyphenation_breaks.specs.Break.{Break, Change, begin_of, break_at}
use Rattle.hyphenation_breaks.specs.Dictionary.{Contents, Patterns}
use Rattle.hyphenation_breaks.specs.Invariant.{IsDictionary}
use Rattle.hyphenation_breaks.specs.declared.entry.Entry.{Entry}
use Rattle.hyphenation_hyphenator.specs.Fitting.{keep_break, kept_breaks}
use Rattle.hyphenation_hyphenator.specs.Opportunities.{within, breaks_within, is_odd, winning_break, breaks_at_odd_values, rules_of, by_patterns, by_exception, Ascending}
use Rattle.hyphenation_hyphenator.specs.Private.Opportunities.{break_at_winner, break_at_index, has_break_at_index, breaks_at_winners}
use Rattle.hyphenation_score.specs.Laws.{ValueIsBorne, WinnerHasValue}
use Rattle.hyphenation_score.specs.Scoring.{value_of, value_at, winner_at, winners}
use Rattle.hyphenation_hyphenator.proofs.Fitting.{EndsAt}
use Rattle.hyphenation_hyphenator.proofs.NumberedCharacters.{picked_more}
use Rattle.hyphenation_hyphenator.proofs.OddPlaces.{none_of, not_within, parts}
use Rattle.hyphenation_hyphenator.proofs.RulesAscend.{rules_are_sound, exceptions_ascend, by_patterns_ascend, by_exception_ascends}

pub some_if : {X : Type 0} (t : Bool) (x y : X) → Some x ≡ cond t (Some y) None → (t ≡ true) × (x ≡ y)
some_if true x y h = (refl, cc)
some_if false x y h = absurd cc

pub none_if : {X : Type 0} (t : Bool) (y : X) → None ≡ cond t (Some y) None → t ≡ false
none_if true y h = absurd cc
none_if false y h = refl

-- One more break may be kept.
pub kept_more : {X : Type 0} (test : Break → Bool) (m : X → Break) (xs : List X) (i : ℕ) (x : X) (kept : List Break) (last_end : ℕ) → i < length xs → x ≡ get_or xs i x
    → kept ≡ kept_breaks test (map m (take i xs)) → EndsAt kept last_end → kept_breaks test (map m (take (i + 1) xs)) ≡ cond (test (m x) && nat_le last_end (begin_of (m x))) (kept ++ m x ∷ []) kept
unfolding kept_breaks
kept_more {X} test m xs i x kept last_end lt at is ends =
    ap (λ ys. kept_breaks test (map m ys)) (take_more xs i x lt) ∙ ap (kept_breaks test) (map-append m (take i xs) (get_or xs i x ∷ []))
    ∙ fold-append (keep_break test) [] (map m (take i xs)) (m (get_or xs i x) ∷ [])
    ∙ ap (λ k. keep_break test k (m (get_or xs i x))) (sym is)
    ∙ ap (λ (y : X). keep_break test kept (m y)) (sym at)
    ∙ ap (λ t. cond (test (m x) && t) (kept ++ m x ∷ []) kept) (ends (m x))

-- One more listed break may be within bounds.
pub listed_more : {X : Type 0} (m : X → Break) (xs : List X) (i : ℕ) (x : X) (bounds : ℕ × ℕ) (breaks : List Break) → i < length xs → x ≡ get_or xs i x
    → breaks ≡ breaks_within (map m (take i xs)) bounds → breaks_within (map m (take (i + 1) xs)) bounds ≡ breaks ++ cond (within bounds (m x).place) (m x ∷ []) []
listed_more {X} m xs i x bounds breaks lt at is =
    ap (λ ys. breaks_within (map m ys) bounds) (take_more xs i x lt) ∙ ap (λ bs. breaks_within bs bounds) (map-append m (take i xs) (get_or xs i x ∷ []))
    ∙ filter-append (λ b. within bounds b.place) (map m (take i xs)) (m (get_or xs i x) ∷ [])
    ∙ ap (λ bs. bs ++ cond (within bounds (m (get_or xs i x)).place) (m (get_or xs i x) ∷ []) []) (sym is)
    ∙ ap (λ (y : X). breaks ++ cond (within bounds (m y).place) (m y ∷ []) []) (sym at)

-- One more break is overwritten.
pub written_more : {X : Type 0} (f : Break → Break) (m : X → Break) (all : List Break) (items : List X) (i : ℕ) (x new : X) → i < length all → i < length items
    → map m items ≡ map f (take i all) ++ drop i all → x ≡ get_or items i x → m new ≡ f (m x) → map m (set items i new) ≡ map f (take (i + 1) all) ++ drop (i + 1) all
written_more f m all items i x new lt in_items is at written =
    map-set m items i new ∙ ap (set (map m items) i) written
    ∙ map_over_more f all (map m items) i (m x) lt is (ap m at ∙ sym (get_or-map m items i x (m x) in_items))

pub all_written_over : (f : Break → Break) (all : List Break) (i : ℕ) → length all ≤ i → map f (take i all) ++ drop i all ≡ map f all
all_written_over f all i h = ap (λ xs. map f xs ++ drop i all) (take_all i all h) ∙ ap (λ xs. map f all ++ xs) (drop_all i all h) ∙ append-nil (map f all)

-- One more winner may be a break.
pub won_more : {C : Type 0} (change_of : C → Option Change) (winners : List (Option (Entry C))) (bounds : ℕ × ℕ) (i : ℕ) (breaks : List Break)
    → breaks ≡ map (break_at_index change_of winners) (filter (has_break_at_index winners bounds) (range_with_len 0 i))
    → map (break_at_index change_of winners) (filter (has_break_at_index winners bounds) (range_with_len 0 (i + 1))) ≡ breaks ++ cond (has_break_at_index winners bounds i) (break_at_index change_of winners i ∷ []) []
won_more change_of winners bounds i breaks is =
    picked_more (break_at_index change_of winners) (has_break_at_index winners bounds) i ∙ ap (λ bs. bs ++ cond (has_break_at_index winners bounds i) (break_at_index change_of winners i ∷ []) []) (sym is)

-- Whether the winner at an index within bounds gives a break.
odd_at : {C : Type 0} (winners : List (Option (Entry C))) (bounds : ℕ × ℕ) (i : ℕ) (winner : Option (Entry C)) → winner ≡ slice_index_or winners i None → within bounds (i + 1) ≡ true → is_odd (value_of winner) ≡ has_break_at_index winners bounds i
odd_at {C} winners bounds i winner at inside =
    sym (ap (λ w. is_odd (value_of (slice_index_or winners i None)) && w) inside ∙ and-true (is_odd (value_of (slice_index_or winners i None)))
    ∙ ap (λ (w : Option (Entry C)). is_odd (value_of w)) (sym at))

pub break_at_next : {C : Type 0} (change_of : C → Option Change) (winners : List (Option (Entry C))) (bounds : ℕ × ℕ) (i : ℕ) (breaks : List Break) (b : Break) (winner : Option (Entry C))
    → winner ≡ slice_index_or winners i None → within bounds (i + 1) ≡ true → breaks ≡ map (break_at_index change_of winners) (filter (has_break_at_index winners bounds) (range_with_len 0 i)) → Some b ≡ break_at_winner change_of (i + 1) winner
    → breaks ++ b ∷ [] ≡ map (break_at_index change_of winners) (filter (has_break_at_index winners bounds) (range_with_len 0 (i + 1)))
break_at_next {C} change_of winners bounds i breaks b winner at inside is e =
    let odd = odd_at winners bounds i winner at inside in
    let here : Some b ≡ cond (has_break_at_index winners bounds i) (Some (break_at_index change_of winners i)) None =
    e ∙ ap (λ (w : Option (Entry C)). cond (is_odd (value_of winner)) (Some (break_at (i + 1) (option_and_then (λ (entry : Entry C). change_of entry.change) w))) None) at
    ∙ ap (λ t. cond t (Some (break_at_index change_of winners i)) None) odd in
    let found = some_if (has_break_at_index winners bounds i) b (break_at_index change_of winners i) here in
    ap (λ y. breaks ++ y ∷ []) found.1 ∙ sym (won_more change_of winners bounds i breaks is ∙ ap (λ t. breaks ++ cond t (break_at_index change_of winners i ∷ []) []) found.0)

pub no_break_at_next : {C : Type 0} (change_of : C → Option Change) (winners : List (Option (Entry C))) (bounds : ℕ × ℕ) (i : ℕ) (breaks : List Break) (winner : Option (Entry C))
    → winner ≡ slice_index_or winners i None → within bounds (i + 1) ≡ true → breaks ≡ map (break_at_index change_of winners) (filter (has_break_at_index winners bounds) (range_with_len 0 i)) → None ≡ break_at_winner change_of (i + 1) winner
    → breaks ≡ map (break_at_index change_of winners) (filter (has_break_at_index winners bounds) (range_with_len 0 (i + 1)))
no_break_at_next {C} change_of winners bounds i breaks winner at inside is e =
    let even = none_if (is_odd (value_of winner)) (break_at (i + 1) (option_and_then (λ (entry : Entry C). change_of entry.change) winner)) e in
    let no = sym (odd_at winners bounds i winner at inside) ∙ even in
    sym (won_more change_of winners bounds i breaks is ∙ ap (λ t. breaks ++ cond t (break_at_index change_of winners i ∷ []) []) no ∙ append-nil breaks)

-- No winner before the first bound or after the last one gives a break.
pub none_before : {C : Type 0} (winners : List (Option (Entry C))) (bounds : ℕ × ℕ) (first : ℕ) → first ≤ bounds.0 - 1 → filter (has_break_at_index winners bounds) (range_with_len 0 first) ≡ []
none_before winners bounds first le =
    none_of (has_break_at_index winners bounds) 0 first (λ i l h. not_within bounds.0 bounds.1 (i + 1) (is_odd (value_of (slice_index_or winners i None))) (inl (omega arith)))

pub none_after : {C : Type 0} (winners : List (Option (Entry C))) (bounds : ℕ × ℕ) (end : ℕ) → end ≡ min (length winners) bounds.1
    → filter (has_break_at_index winners bounds) (range_with_len 0 end) ≡ filter (has_break_at_index winners bounds) (range_with_len 0 (length winners))
none_after winners bounds end is =
    let test = has_break_at_index winners bounds in
    let rest : ℕ = length winners - end in
    let sum : length winners ≡ end + rest = omega arith in
    let back : filter test (range_with_len (0 + end) rest) ≡ [] =
    none_of test (0 + end) rest (λ i l h. not_within bounds.0 bounds.1 (i + 1) (is_odd (value_of (slice_index_or winners i None))) (inr (omega arith))) in
    sym (ap (λ n. filter test (range_with_len 0 n)) sum ∙ parts test 0 end rest ∙ ap (λ xs. filter test (range_with_len 0 end) ++ xs) back ∙ append-nil (filter test (range_with_len 0 end)))

-- ---- found breaks, by the rules of a dictionary

same_won : (f g : ℕ → Break) (test odd : ℕ → Bool) (bounds : ℕ × ℕ) → ((p : ℕ) → (g p).place ≡ p) → (a n : ℕ)
    → ((i : ℕ) → a ≤ i → i < a + n → (f i ≡ g (i + 1)) × (test i ≡ (odd (i + 1) && within bounds (i + 1))))
    → map f (filter test (range_with_len a n)) ≡ breaks_within (map g (filter odd (range_with_len (a + 1) n))) bounds
same_won f g test odd bounds placed a zero agree = refl
same_won f g test odd bounds placed a (suc n) agree =
    let front = filter test (range_with_len (a + 1) n) in
    let back = filter odd (range_with_len ((a + 1) + 1) n) in
    let after = breaks_within (map g back) bounds in
    let rest : map f front ≡ after = same_won f g test odd bounds placed (a + 1) n (λ i l h. agree i (omega arith) (omega arith)) in
    let here = agree a (omega arith) (omega arith) in
    let both : map f (cond (within bounds (a + 1)) (a ∷ front) front) ≡ cond (within bounds (g (a + 1)).place) (g (a + 1) ∷ after) after =
    elim (within bounds (a + 1)) as (λ w. map f (cond w (a ∷ front) front) ≡ cond w (g (a + 1) ∷ after) after) [ true ↦ ap (λ b. b ∷ map f front) here.0 ∙ ap (λ bs. g (a + 1) ∷ bs) rest | false ↦ rest ]
    ∙ ap (λ p. cond (within bounds p) (g (a + 1) ∷ after) after) (sym (placed (a + 1))) in
    ap (λ t. map f (cond t (a ∷ front) front)) here.1
    ∙ elim (odd (a + 1)) as (λ o. map f (cond (o && within bounds (a + 1)) (a ∷ front) front) ≡ breaks_within (map g (cond o ((a + 1) ∷ back) back)) bounds) [ true ↦ both | false ↦ rest ]

-- Breaks by the winners within bounds are the breaks that the keys allow.
pub breaks_at_winners_are : {C : Type 0} (change_of : C → Option Change) (keys : Patterns C) (word : List ℕ) (bounds : ℕ × ℕ) (found : List (Option (Entry C)))
    → WinnerHasValue C → found ≡ winners keys word → breaks_at_winners change_of found bounds ≡ breaks_within (breaks_at_odd_values change_of keys word) bounds
unfolding breaks_at_odd_values
breaks_at_winners_are {C} change_of keys word bounds found has_value is =
    let n = length word - 1 in
    let ws : List (Option (Entry C)) = winners keys word in
    let count : length ws ≡ n = length-map-range_with_len (λ p. winner_at keys word p) 1 n in
    let at : (i : ℕ) → i < n → slice_index_or ws i None ≡ winner_at keys word (i + 1) = λ i lt. get_or-map-range_with_len (λ p. winner_at keys word p) 1 n i (i + 1) None lt (omega arith) in
    ap (λ (vs : List (Option (Entry C))). breaks_at_winners change_of vs bounds) is
    ∙ ap (λ m. map (break_at_index change_of ws) (filter (has_break_at_index ws bounds) (range_with_len 0 m))) count
    ∙ same_won (break_at_index change_of ws) (winning_break change_of keys word) (has_break_at_index ws bounds) (λ place. is_odd (value_at keys word place)) bounds (λ _. refl) 0 n
    (λ i l h.
    let winner : slice_index_or ws i None ≡ winner_at keys word (i + 1) = at i (omega arith) in (
      ap (λ w. break_at (i + 1) (option_and_then (λ entry. change_of entry.change) w)) winner,
      ap (λ w. is_odd (value_of w) && within bounds (i + 1)) winner ∙ ap (λ v. is_odd v && within bounds (i + 1)) (has_value keys word (i + 1)),
    ))

-- The breaks found for an exception are those by exception.
pub exception_is : {C B : Type 0} (change_of : C → Option Change) (break_of : B → Break) (contents : Contents C B) (word : List ℕ) (listed : List B) (found : List Break) (bounds : ℕ × ℕ) → finite.get contents.exceptions word ≡ Some listed
    → found ≡ breaks_within (map break_of listed) bounds → Some found ≡ by_exception (rules_of change_of break_of contents) word bounds
exception_is change_of break_of contents word listed found bounds is e = ap Some e ∙ ap (λ o. option_map (λ l. breaks_within l bounds) (option_map (map break_of) o)) (sym is)

pub found_ascend : {C B : Type 0} (change_of : C → Option Change) (break_of : B → Break) (contents : Contents C B) (word : List ℕ) (bounds : ℕ × ℕ) (found : List Break) → IsDictionary change_of break_of contents
    → Some found ≡ by_exception (rules_of change_of break_of contents) word bounds → Ascending word found
found_ascend change_of break_of contents word bounds found kept is =
    subst (λ o. IfSome o (λ listed. Ascending word listed)) (sym is) (by_exception_ascends (rules_of change_of break_of contents) word bounds (exceptions_ascend change_of break_of contents word kept))

-- Listed breaks within bounds ascend.
pub listed_ascend : {C B : Type 0} (change_of : C → Option Change) (break_of : B → Break) (contents : Contents C B) (word : List ℕ) (listed : List B) (bounds : ℕ × ℕ) (found : List Break) → IsDictionary change_of break_of contents
    → finite.get contents.exceptions word ≡ Some listed → found ≡ breaks_within (map break_of listed) bounds → Ascending word found
listed_ascend change_of break_of contents word listed bounds found kept is e =
    found_ascend change_of break_of contents word bounds found kept (exception_is change_of break_of contents word listed found bounds is e)

pub pattern_breaks_ascend : {C B : Type 0} (change_of : C → Option Change) (break_of : B → Break) (contents : Contents C B) (word : List ℕ) (bounds : ℕ × ℕ) (found : List Break) → ValueIsBorne C → IsDictionary change_of break_of contents → IsUtf8 word
    → found ≡ by_patterns (rules_of change_of break_of contents) word bounds → Ascending word found
pattern_breaks_ascend change_of break_of contents word bounds found borne kept u is =
    subst (Ascending word) (sym is) (by_patterns_ascend (rules_of change_of break_of contents) word bounds (rules_are_sound change_of break_of contents word borne kept u))
