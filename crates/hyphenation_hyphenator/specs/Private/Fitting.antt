-- The test of a break that is to be kept, by the shifts of the folding.
use Rattle.std.specs.Prelude.{ℕ, ◌&&◌, not, nat_le, nat_lt, Bool, if◌then◌else◌, List, length, map, Option, Some, None}
use Rattle.std.specs.List.{list_any}
use Rattle.hyphenation_breaks.specs.Break.{Break, left_of, begin_of, end_of}
use Rattle.hyphenation_hyphenator.specs.declared.case_folding.Shift.{Shift}
use Rattle.hyphenation_hyphenator.specs.Fitting.{kept_breaks}
use Rattle.hyphenation_hyphenator.specs.Opportunities.{Rules, opportunities}
use Rattle.hyphenation_hyphenator.specs.Private.Opportunities.{realigned_break}

-- A shift has its index at begin or later, and before end.
abbrev pub holds_shift : List Shift → ℕ → ℕ → Bool
holds_shift shifts begin end = list_any (λ shift. nat_le begin shift.index && nat_lt shift.index end) shifts

-- The range of a break lies in a folded word of that many bytes, and holds no shift.
unfoldable pub range_holds_no_shift : ℕ → List Shift → Break → Bool
range_holds_no_shift size shifts b =
    nat_le (left_of b.change) b.place && nat_le (end_of b) size && not (holds_shift shifts (begin_of b) (end_of b))

-- The breaks of a folded word that are kept, by the shifts of the folding.
abbrev pub kept_by_shifts : List ℕ → List Shift → List Break → List Break
kept_by_shifts folded shifts breaks = kept_breaks (range_holds_no_shift (length folded) shifts) breaks

-- The opportunities of a folded word that are kept, by the shifts of the folding.
abbrev pub kept_opportunities : Rules → List ℕ → List Shift → List Break
kept_opportunities rules folded shifts = kept_by_shifts folded shifts (opportunities rules folded)

-- The opportunities of a folded word that are kept, carried back by the shifts of the folding.
abbrev pub realigned_breaks : Rules → List ℕ → List Shift → List Break
realigned_breaks rules folded shifts = map (realigned_break shifts) (kept_opportunities rules folded shifts)

-- The end of a break's range, if the break is kept after ranges up to the last end.
abbrev pub fitting_end : ℕ → List Shift → ℕ → Break → Option ℕ
fitting_end size shifts last_end b =
    if range_holds_no_shift size shifts b && nat_le last_end (begin_of b) then Some (end_of b) else None
