-- Breaks at the places of odd values, found by ranks, where no rank there is odd.
use Rattle.std.proofs.Common.{◌≡◌, ◌≢◌, ◌==◌, ◌/◌, ◌%◌, ◌&&◌, ◌||◌, not, ℕ, zero, suc, ◌+◌, ◌-◌, ◌<◌, ◌≤◌, Bool, true, false, cond, List, [], ◌∷◌, length, map, filter, max, min, Option, None, refl, sym, ap, subst, ◌∙◌, arith, inl, inr}
use Rattle.std.specs.List.{list_all, range_with_len, slice_index}
use Rattle.std.specs.Option.{option_and_then}
use Rattle.std.proofs.Math.Bool.{and-false, or-false}
use Rattle.std.proofs.Math.ListN.{get_or-map}
use Rattle.std.proofs.lemmas.Bool.{cases_eq, eqb-true}
use Rattle.std.proofs.lemmas.List.{length-map}
use Rattle.std.proofs.lemmas.List.Folds.{list_all-append}
use Rattle.std.proofs.lemmas.List.FromFn.{get_or-map-range_with_len, length-map-range_with_len}
use Rattle.hyphenation_breaks.specs.Break.{Change, plain_break}
use Rattle.hyphenation_breaks.specs.Dictionary.{Patterns}
use Rattle.hyphenation_breaks.specs.Ranks.{greatest_rank, rank_with_change}
use Rattle.hyphenation_score.specs.Laws.{RanksShowChanges}
use Rattle.hyphenation_score.specs.Scoring.{bearers, frame, own_change, places, ranks, value_at, values, winner_at}
use Rattle.hyphenation_hyphenator.specs.Private.Opportunities.{breaks_by_keys, is_unchanged, odd_places, values_of_ranks}
use Rattle.hyphenation_hyphenator.proofs.OddPlaces.{even_none, next_even, next_odd, outside, places_allowed, test_of, within_alone}

-- The value at an index is half of the rank there.
value_of_rank : (ranks : List ℕ) (i : ℕ) → slice_index (values_of_ranks ranks) i ≡ slice_index ranks i / 2
value_of_rank ranks i = get_or-map (λ (rank : ℕ). rank / 2) ranks i 0

length-values : (ranks : List ℕ) → length (values_of_ranks ranks) ≡ length ranks
length-values ranks = length-map ranks (λ (rank : ℕ). rank / 2)

-- Not all pass where one that is picked does not.
not_all : (pass test : ℕ → Bool) (first n at : ℕ) → first ≤ at → at < first + n → test at ≡ true → pass at ≡ false → list_all pass (filter test (range_with_len first n)) ≡ false
not_all pass test first zero at low high picked fails = absurd (omega arith)
not_all pass test first (suc n) at low high picked fails =
    let rest = filter test (range_with_len (first + 1) n) in
    elim (cases_eq at first) [
      | inl here ↦
          ap (λ t. list_all pass (cond t (first ∷ rest) rest)) (ap test (sym here) ∙ picked) ∙ ap (λ t. t && list_all pass rest) (ap pass (sym here) ∙ fails)
      | inr later ↦
          let none : list_all pass rest ≡ false = not_all pass test (first + 1) n at (omega arith) (omega arith) picked fails in
          elim (test first) as (λ t. list_all pass (cond t (first ∷ rest) rest) ≡ false) [
            | true ↦ ap (λ t. pass first && t) none ∙ and-false (pass first)
            | false ↦ none
          ]
    ]

-- Each that is picked passes where all do.
all_pass : (pass test : ℕ → Bool) (first n at : ℕ) → first ≤ at → at < first + n → test at ≡ true → list_all pass (filter test (range_with_len first n)) ≡ true → pass at ≡ true
all_pass pass test first n at low high picked all =
    elim (pass at) as (λ t. pass at ≡ t → t ≡ true) [
      | true ↦ λ _. refl
      | false ↦ λ fails. sym (not_all pass test first n at low high picked fails) ∙ all
    ] refl

-- The places of odd values from the first bound up to a place, within the bounds.
abbrev pub places_up_to : List ℕ → ℕ × ℕ → ℕ → ℕ → List ℕ
places_up_to ranks bounds first at = filter (test_of (values_of_ranks ranks) bounds) (range_with_len first (at - first))

pub none_yet : (ranks : List ℕ) (bounds : ℕ × ℕ) (first : ℕ) → false ≡ not (list_all (is_unchanged ranks) (places_up_to ranks bounds first first))
none_yet ranks bounds first =
    ap (λ (places : List ℕ). not (list_all (is_unchanged ranks) places)) (even_none (values_of_ranks ranks) bounds first first (λ p low high. absurd (omega arith)))

-- A rank whose rest by 4 is 3 shows an odd value and a change.
change_at_odd : (rank : ℕ) → rank / 2 % 2 ≡ 1 → (rank % 4 == 3) ≡ not (rank % 2 == 0)
change_at_odd rank odd = grind (arith)

no_change_at_even : (rank : ℕ) → rank / 2 % 2 ≢ 1 → false ≡ (rank % 4 == 3)
no_change_at_even rank even = grind (arith)

either_fails : (all one : Bool) → (not all || not one) ≡ not (all && (one && true))
either_fails true true = refl
either_fails true false = refl
either_fails false one = refl

-- One more place may have a change.
pub change_more : (ranks : List ℕ) (bounds : ℕ × ℕ) (first end at : ℕ) (changed : Bool) → first ≡ max bounds.0 1 → end ≡ min (length ranks) bounds.1 → first ≤ at → at ≤ end
    → changed ≡ not (list_all (is_unchanged ranks) (places_up_to ranks bounds first at))
    → (changed || (slice_index ranks (at - 1) % 4 == 3)) ≡ not (list_all (is_unchanged ranks) (places_up_to ranks bounds first (at + 1)))
change_more ranks bounds first end at changed is_first is_end low high before =
    let values = values_of_ranks ranks in
    let places = places_up_to ranks bounds first at in
    let rank = slice_index ranks (at - 1) in
    let pass = is_unchanged ranks in
    let last : end ≡ min (length values) bounds.1 = omega (arith, length-values ranks) in
    let oddness : slice_index values (at - 1) % 2 ≡ rank / 2 % 2 = ap (λ v. v % 2) (value_of_rank ranks (at - 1)) in
    elim (cases_eq (rank / 2 % 2) 1) [
      | inl odd ↦
          ap (λ t. changed || t) (change_at_odd rank odd) ∙ ap (λ t. t || not (pass at)) before ∙ either_fails (list_all pass places) (pass at)
          ∙ ap not (sym (list_all-append pass places (at ∷ []))) ∙ ap (λ (ps : List ℕ). not (list_all pass ps)) (next_odd values places bounds first end at is_first last low high refl (oddness ∙ odd))
      | inr even ↦
          ap (λ t. changed || t) (sym (no_change_at_even rank even)) ∙ or-false changed ∙ before
          ∙ ap (λ (ps : List ℕ). not (list_all pass ps)) (next_even values places bounds first end at is_first last low high refl (λ odd. even (sym oddness ∙ odd)))
    ]

-- All places are looked at where the end is reached.
pub all_places : (ranks : List ℕ) (bounds : ℕ × ℕ) (first end at : ℕ) → first ≡ max bounds.0 1 → end ≡ min (length ranks) bounds.1 → first ≤ at → end + 1 ≤ at → (first ≤ end + 1 → at ≤ end + 1)
    → places_up_to ranks bounds first at ≡ odd_places (values_of_ranks ranks) bounds
all_places ranks bounds first end at is_first is_end low after ends =
    let count = length-values ranks in
    within_alone (test_of (values_of_ranks ranks) bounds) first end at (length (values_of_ranks ranks)) (omega arith) (omega arith) low after ends
    (λ p one out. outside (values_of_ranks ranks) bounds first end p is_first (omega arith) one out)

-- Plain breaks at the places of odd values are those that the keys allow, where no rank there is odd.
pub breaks_by_ranks_are : {C : Type 0} (change_of : C → Option Change) (keys : Patterns C) (word : List ℕ) (bounds : ℕ × ℕ) (ranks : List ℕ)
    → values_of_ranks ranks ≡ values keys word
    → ((p : ℕ) → 1 ≤ p → p < length word → slice_index ranks (p - 1) % 2 ≡ 0 → option_and_then (λ entry. change_of entry.change) (winner_at keys word p) ≡ None)
    → list_all (is_unchanged ranks) (odd_places (values_of_ranks ranks) bounds) ≡ true
    → map plain_break (odd_places (values_of_ranks ranks) bounds) ≡ breaks_by_keys change_of keys word bounds
breaks_by_ranks_are change_of keys word bounds ranks are none all =
    let n = length (values keys word) in
    let count : n ≡ length word - 1 = length-map-range_with_len (λ p. value_at keys word p) 1 (length word - 1) in
    let unchanged = subst (λ vs. list_all (is_unchanged ranks) (odd_places vs bounds) ≡ true) are all in
    ap (λ vs. map plain_break (odd_places vs bounds)) are
    ∙ places_allowed change_of keys word bounds
    (λ p low high passes. none p low high (eqb-true _ _ (all_pass (is_unchanged ranks) (test_of (values keys word) bounds) 1 n p low (omega (arith, count)) passes unchanged)))

-- ---- the ranks of a word

halves : (rank value : ℕ → ℕ) → ((p : ℕ) → rank p / 2 ≡ value p) → (ps : List ℕ) → values_of_ranks (map rank ps) ≡ map value ps
halves rank value half [] = refl
halves rank value half (p ∷ ps) = ap (λ (v : ℕ). v ∷ values_of_ranks (map rank ps)) (half p) ∙ ap (λ (vs : List ℕ). value p ∷ vs) (halves rank value half ps)

pub breaks_of_word : (keys : Patterns (Option Change)) (word : List ℕ) (bounds : ℕ × ℕ) → RanksShowChanges
    → list_all (is_unchanged (ranks rank_with_change keys word)) (odd_places (values_of_ranks (ranks rank_with_change keys word)) bounds) ≡ true
    → map plain_break (odd_places (values_of_ranks (ranks rank_with_change keys word)) bounds) ≡ breaks_by_keys own_change keys word bounds
breaks_of_word keys word bounds show all =
    let rank : ℕ → ℕ = λ p. greatest_rank rank_with_change (bearers keys (frame word) p) in
    breaks_by_ranks_are own_change keys word bounds (ranks rank_with_change keys word)
    (halves rank (λ p. value_at keys word p) (λ p. (show keys word p).0) (places word))
    (λ p low high even. (show keys word p).1 (sym (ap (λ r. r % 2) (get_or-map-range_with_len rank 1 (length word - 1) (p - 1) p 0 (omega arith) (omega arith))) ∙ even))
    all
