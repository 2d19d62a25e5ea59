-- Counts of a search.
use Rattle.std.specs.Prelude.{ℕ}

-- The number of look-ups of a byte among a node's children, and the number of keys reported.
pub record Counts : Type 0 where
  pub made : ℕ
  pub reported : ℕ
