-- Printable characters of ASCII.
use Rattle.std.specs.Prelude.{ℕ, Bool}
use Rattle.std.specs.Int.{is_in_range}

-- A byte or a character is a printable one of ASCII.
abbrev pub is_printable : ℕ → Bool
is_printable c = is_in_range 0x20 0x7E c
