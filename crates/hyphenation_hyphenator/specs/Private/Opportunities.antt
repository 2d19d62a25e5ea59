-- Breaks by the winners of places, borrowed breaks, and breaks carried back by shifts.
use Rattle.std.specs.Prelude.{ℕ, ◌+◌, ◌-◌, ◌/◌, ◌%◌, ◌==◌, ◌&&◌, pos, ◌-ℤ◌, Bool, if◌then◌else◌, List, length, map, filter, slice_index, slice_index_or, Option, Some, None, option_copied}
use Rattle.std.specs.Borrow.{Bor}
use Rattle.std.specs.Int.{saturate_unsigned, w64}
use Rattle.std.specs.List.{range_with_len}
use Rattle.std.specs.Option.{option_and_then}
use Rattle.hyphenation_breaks.specs.Break.{Break, Change, break_at}
use Rattle.hyphenation_breaks.specs.Dictionary.{Patterns}
use Rattle.hyphenation_breaks.specs.declared.entry.Entry.{Entry}
use Rattle.hyphenation_hyphenator.specs.declared.case_folding.Shift.{Shift}
use Rattle.hyphenation_hyphenator.specs.Folding.{delta_below}
use Rattle.hyphenation_score.specs.Scoring.{value_of}
use Rattle.hyphenation_hyphenator.specs.Opportunities.{is_odd, within, breaks_within, breaks_at_odd_values}

-- The breaks within bounds that the patterns of some keys allow.
abbrev pub breaks_by_keys : {C : Type 0} → (C → Option Change) → Patterns C → List ℕ → ℕ × ℕ → List Break
breaks_by_keys change_of keys word bounds = breaks_within (breaks_at_odd_values change_of keys word) bounds

-- The places within bounds that have an odd value. The values begin with that of place 1.
abbrev pub odd_places : List ℕ → ℕ × ℕ → List ℕ
odd_places values bounds =
    filter (λ place. is_odd (slice_index values (place - 1)) && within bounds place) (range_with_len 1 (length values))

-- The values of places with these ranks.
abbrev pub values_of_ranks : List ℕ → List ℕ
values_of_ranks ranks = map (λ rank. rank / 2) ranks

-- The rank of a place is even, so that its winner carries no change. The ranks begin with that of place 1.
abbrev pub is_unchanged : List ℕ → ℕ → Bool
is_unchanged ranks place = slice_index ranks (place - 1) % 2 == 0

-- The break of a place with a borrowed change or none.
abbrev pub borrowed_break : ℕ × Option (Bor Change) → Break
borrowed_break found = break_at found.0 (option_copied found.1)

-- The break at a place by its winner, if the winner's value is odd.
abbrev pub break_at_winner : {C : Type 0} → (C → Option Change) → ℕ → Option (Entry C) → Option Break
break_at_winner change_of place winner =
    if is_odd (value_of winner)
    then Some (break_at place (option_and_then (λ entry. change_of entry.change) winner))
    else None

-- The break at an index of the winners, which begin with that of place 1.
abbrev pub break_at_index : {C : Type 0} → (C → Option Change) → List (Option (Entry C)) → ℕ → Break
break_at_index change_of winners index =
    break_at (index + 1) (option_and_then (λ entry. change_of entry.change) (slice_index_or winners index None))

-- The winner at an index has an odd value, and its place is within bounds.
abbrev pub has_break_at_index : {C : Type 0} → List (Option (Entry C)) → ℕ × ℕ → ℕ → Bool
has_break_at_index winners bounds index = is_odd (value_of (slice_index_or winners index None)) && within bounds (index + 1)

-- The breaks within bounds by the winners of a word's places.
abbrev pub breaks_at_winners : {C : Type 0} → (C → Option Change) → List (Option (Entry C)) → ℕ × ℕ → List Break
breaks_at_winners change_of winners bounds =
    map (break_at_index change_of winners) (filter (has_break_at_index winners bounds) (range_with_len 0 (length winners)))

-- A break of the folded word, carried back by the shifts of the folding.
unfoldable pub realigned_break : List Shift → Break → Break
realigned_break shifts b = break_at (saturate_unsigned w64 (pos b.place -ℤ delta_below shifts b.place)) b.change
