-- The number that digits write, within 64 bits.
use Rattle.std.specs.Prelude.{ℕ, ◌^◌, nat_lt, if◌then◌else◌, List, Option, Some, None}
use Rattle.hyphenation_grammar.specs.Lines.{number}

-- The number that the digits of a text write, if it is below 2^64.
abbrev pub value_in_64_bits : List ℕ → Option ℕ
value_in_64_bits text = if nat_lt (number text) (2 ^ 64) then Some (number text) else None
