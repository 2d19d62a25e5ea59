-- The greatest rank of entries that may carry changes shows their greatest value, and whether an entry with it has a change.
use Rattle.std.proofs.Common.{◌≡◌, ℕ, ◌+◌, ◌*◌, ◌/◌, ◌%◌, ◌≤◌, max, true, false, cond, eqb, List, [], ◌∷◌, map, Option, Some, None, refl, arith}
use Rattle.std.specs.List.{find}
use Rattle.std.specs.Option.{option_and_then}
use Rattle.std.proofs.lemmas.Bool.{eqb-true}
use Rattle.hyphenation_breaks.specs.Break.{Change}
use Rattle.hyphenation_breaks.specs.Dictionary.{Patterns}
use Rattle.hyphenation_breaks.specs.Ranks.{greatest_rank, rank_with_change}
use Rattle.hyphenation_breaks.specs.declared.entry.Entry.{Entry}
use Rattle.hyphenation_score.specs.Scoring.{bearers, first_greatest, frame, greatest_value, value_at, winner_at}
use Rattle.hyphenation_score.proofs.GreatestValues.{greatest_from}

abbrev rank_of_entry : Entry (Option Change) → ℕ
rank_of_entry e = rank_with_change e.change e.value

rank_is_twice : (change : Option Change) (value : ℕ) → (value * 2 ≤ rank_with_change change value) × (rank_with_change change value ≤ value * 2 + 1)
rank_is_twice None value = (omega arith, omega arith)
rank_is_twice (Some change) value = (omega arith, omega arith)

-- only the rank of a value without a change is no more than twice the value
no_change_of_rank : (change : Option Change) (value : ℕ) → rank_with_change change value ≤ value * 2 → change ≡ None
no_change_of_rank None value le = refl
no_change_of_rank (Some change) value le = absurd (omega arith)

cons_value : (e : Entry (Option Change)) (es : List (Entry (Option Change))) → greatest_value (e ∷ es) ≡ max e.value (greatest_value es)
cons_value e es = omega (arith, greatest_from (max 0 e.value) (map (λ x. x.value) es))

cons_rank : (e : Entry (Option Change)) (es : List (Entry (Option Change))) → greatest_rank rank_with_change (e ∷ es) ≡ max (rank_of_entry e) (greatest_rank rank_with_change es)
cons_rank e es = omega (arith, greatest_from (max 0 (rank_of_entry e)) (map rank_of_entry es))

rank_is_twice_value : (es : List (Entry (Option Change))) → (greatest_value es * 2 ≤ greatest_rank rank_with_change es) × (greatest_rank rank_with_change es ≤ greatest_value es * 2 + 1)
rank_is_twice_value [] = (omega arith, omega arith)
rank_is_twice_value (e ∷ es) =
    let value = cons_value e es in
    let rank = cons_rank e es in
    let own = rank_is_twice e.change e.value in
    let rest = rank_is_twice_value es in
    (omega arith, omega arith)

-- an entry with the value carries no change if no rank is more than twice the value
found_has_no_change : (es : List (Entry (Option Change))) (v : ℕ) → greatest_rank rank_with_change es ≤ v * 2
    → option_and_then (λ entry. entry.change) (find (λ e. eqb e.value v) es) ≡ None
found_has_no_change [] v le = refl
found_has_no_change (e ∷ es) v le =
    let rank = cons_rank e es in
    elim (eqb e.value v) as (λ b. eqb e.value v ≡ b → option_and_then (λ (entry : Entry (Option Change)). entry.change) (cond b (Some e) (find (λ x. eqb x.value v) es)) ≡ None) [
      | true ↦ λ same. let is = eqb-true e.value v same in no_change_of_rank e.change e.value (omega arith)
      | false ↦ λ other. found_has_no_change es v (omega arith)
    ] refl

first_has_no_change : (es : List (Entry (Option Change))) → greatest_rank rank_with_change es % 2 ≡ 0
    → option_and_then (λ entry. entry.change) (first_greatest es) ≡ None
first_has_no_change es even =
    let twice = rank_is_twice_value es in
    elim (eqb (greatest_value es) 0) as (λ b. option_and_then (λ (entry : Entry (Option Change)). entry.change) (cond b None (find (λ x. eqb x.value (greatest_value es)) es)) ≡ None) [
      | true ↦ refl
      | false ↦ found_has_no_change es (greatest_value es) (omega arith)
    ]

pub ranks_show : (keys : Patterns (Option Change)) (word : List ℕ) (p : ℕ)
    → (greatest_rank rank_with_change (bearers keys (frame word) p) / 2 ≡ value_at keys word p)
    × (greatest_rank rank_with_change (bearers keys (frame word) p) % 2 ≡ 0
    → option_and_then (λ entry. entry.change) (winner_at keys word p) ≡ None)
ranks_show keys word p =
    let twice = rank_is_twice_value (bearers keys (frame word) p) in
    (omega arith, first_has_no_change (bearers keys (frame word) p))
