-- Values with changes in a dictionary without changes: the break there is forbidden.
-- Source: L. Németh, Automatic non-standard hyphenation in OpenOffice.org, TUGboat 27:1 (2006).
use Rattle.std.specs.Prelude.{◌≡◌, ℕ, ◌+◌, ◌%◌, ◌&&◌, not, List, map, Option, None, option_map, is_some, if◌then◌else◌}
use Rattle.std.specs.Option.{option_and_then}
use Rattle.hyphenation_breaks.specs.Break.{Change}
use Rattle.hyphenation_breaks.specs.Dictionary.{Patterns}
use Rattle.hyphenation_breaks.specs.declared.entry.Entry.{Entry}
use Rattle.hyphenation_score.specs.Scoring.{value_at, winner_at}

-- The next even number of an odd one; an even number itself.
abbrev pub to_even : ℕ → ℕ
to_even value = value + value % 2

-- An entry in a dictionary without changes. A value with a change is made even, so that it forbids the break that it
-- allows only with its change.
abbrev pub entry_without_change : Entry (Option Change) → Entry (Unit {0})
entry_without_change entry = record {
  place = entry.place;
  value = if is_some entry.change then to_even entry.value else entry.value;
  change = tt;
}

-- Patterns whose values carry no changes.
abbrev pub patterns_without_changes : Patterns (Option Change) → Patterns (Unit {0})
patterns_without_changes keys text = option_map (λ entries. map entry_without_change entries) (keys text)

-- An entry as a kind of dictionary keeps it, by payload_of and change_of. If the kind can't carry the change, the value
-- forbids the break.
abbrev pub carried_entry : {C : Type 0} → (C → Option Change) → (Option Change → C) → Entry (Option Change) → Entry C
carried_entry change_of payload_of entry = record {
  place = entry.place;
  value = if is_some entry.change && not (is_some (change_of (payload_of entry.change))) then to_even entry.value
      else entry.value;
  change = payload_of entry.change;
}

-- ---- Laws.

-- A standard dictionary carries no change, an extended one each change as it is.
abbrev pub KindsKeep : Type 0
KindsKeep =
    (entry : Entry (Option Change))
    → (carried_entry (λ (c : Unit {0}). None) (λ c. tt) entry ≡ entry_without_change entry)
    × (carried_entry (λ (c : Option Change). c) (λ c. c) entry ≡ entry)

-- If patterns without their changes allow a break, the patterns with them allow one there by an equal value, and it
-- changes nothing.
abbrev pub NoBreakLosesItsChange : Type 0
NoBreakLosesItsChange =
    (keys : Patterns (Option Change)) (word : List ℕ) (p : ℕ) → value_at (patterns_without_changes keys) word p % 2 ≡ 1
    → (value_at keys word p ≡ value_at (patterns_without_changes keys) word p)
    × (option_and_then (λ entry. entry.change) (winner_at keys word p) ≡ None)
