-- The changes that regions claim.
use Rattle.std.specs.Prelude.{◌≡◌, ℕ, ◌<◌, ◌≤◌, List, length, slice_index_or, Option, Some, option_map}
use Rattle.libhyphen_rule.specs.Counting.{Counted}
use Rattle.libhyphen_rule.specs.Found.{placed, placed_all}
use Rattle.libhyphen_rule.specs.Private.Cells.{HasCells}
use Rattle.libhyphen_rule.specs.OneLevel.{Claim, ChangeAt, Made, made_up_to, offers}
use Rattle.libhyphen_rule.specs.declared.cells.Cell.{Cell}
use Rattle.libhyphen_rule.specs.declared.one_level.PlacedChange.{PlacedChange}

-- The place of each region is a place of the frame, not before the region.
abbrev pub AreWithin : List Cell → Type 0
AreWithin cells =
    (begin : ℕ) (d : Cell) → begin < length cells → (at : ℕ) → (slice_index_or cells begin d).place ≡ Some at
    → (begin ≤ at) × (at < length cells)

-- A change that is made, with its place.
abbrev pub claim_made : ℕ × PlacedChange → Claim
claim_made made = record { place = made.0; change = placed made.1 }

-- The same, if one is made.
abbrev pub claimed : Option (ℕ × PlacedChange) → Option Claim
claimed made = option_map claim_made made

-- The changes that are made so far, and the next beginning.
abbrev pub made_now : ℕ → List (Option ChangeAt) → Made
made_now next changes = record { next = next; changes = changes }

-- The changes of a word's bytes are made by the cells.
abbrev pub AreMade : List Cell → ℕ → List (Option PlacedChange) → Type 0
AreMade cells bytes changes =
    (counted : List Counted) → HasCells counted (offers counted) cells
    → placed_all changes ≡ (made_up_to counted bytes bytes).changes
