-- Ends of lines.
use Rattle.std.specs.Prelude.{ℕ, ◌<◌, ◌≤◌, List, length}
use Rattle.std.specs.List.{slice_index_or}
use Rattle.line_division.specs.declared.stretch.Stretch.{Stretch}

-- After each of these ends some stretches have come, and no more than there are.
abbrev pub AreEnds : List Stretch → List ℕ → Type 0
AreEnds stretches ends = (k : ℕ) → k < length ends
    → (1 ≤ slice_index_or ends k 0) × (slice_index_or ends k 0 ≤ length stretches)
