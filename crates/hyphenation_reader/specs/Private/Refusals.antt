-- The fault of one line.
use Rattle.std.specs.Prelude.{ℕ, Option, option_map}
use Rattle.hyphenation_grammar.specs.declared.Cause.{Cause}

-- The fault of the line of that number, if it has a cause.
abbrev pub at_number : ℕ → Option Cause → Option (ℕ × Cause)
at_number number found = option_map (λ cause. (number, cause)) found
