-- Rows found so far, on the way from start to start and from byte to byte.
use Rattle.std.specs.Prelude.{◌≡◌, ℕ, ◌+◌, ◌<◌, ◌≤◌, ◌⊎◌, List}
use Rattle.std.specs.List.{All, AllPairs, Contains}
use Rattle.hyphenation_breaks.specs.Dictionary.{Patterns}
use Rattle.explanations.specs.Rows.{PatternRow, IsOccurrence, ComesBefore}

-- The row starts before this start, or there and ends no later than this end.
abbrev pub IsUpTo : {C : Type 0} → ℕ → ℕ → PatternRow C → Type 0
IsUpTo start end row = (row.start < start) ⊎ ((row.start ≡ start) × (row.start + row.bytes ≤ end))

-- The rows are those of all occurrences up to this start and this end, in their order.
pub record AreOccurrencesUpTo {C : Type 0} (keys : Patterns C) (text : List ℕ) (start end : ℕ)
    (rows : List (PatternRow C)) : Type 0 where
  pub each : All (IsOccurrence keys text) rows
  pub upto : All (IsUpTo start end) rows
  pub all : (row : PatternRow C) → IsOccurrence keys text row → IsUpTo start end row → Contains rows row
  pub in_order : AllPairs ComesBefore rows
