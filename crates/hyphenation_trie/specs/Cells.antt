-- How a cell of 32 bits holds a place, in its low bits, and a number, in those above.
use Rattle.std.specs.Prelude.{◌≡◌, ℕ, ◌+◌, ◌-◌, ◌/◌, ◌%◌, ◌^◌, ◌<◌}
use Rattle.hyphenation_trie.specs.declared.table.split.Split.{Split}

-- The greatest place is the one of which all bits are 1.
pub record IsSplit (split : Split) : Type 0 where
  pub within : split.place_bits < 32
  pub last : split.last_place + 1 ≡ 2 ^ split.place_bits

-- The place that a cell holds.
abbrev pub place_in : Split → ℕ → ℕ
place_in split cell = cell % 2 ^ split.place_bits

-- The number that a cell holds.
abbrev pub number_in : Split → ℕ → ℕ
number_in split cell = cell / 2 ^ split.place_bits

-- All numbers below this one have room in a cell.
abbrev pub numbers_of : Split → ℕ
numbers_of split = 2 ^ (32 - split.place_bits)
