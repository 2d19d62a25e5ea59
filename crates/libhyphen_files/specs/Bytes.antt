-- Bytes of texts in the charset of a file.
use Rattle.std.specs.Prelude.{ℕ, ◌==◌, ◌&&◌, nat_le, nat_lt, nat_eq, Bool, List}
use Rattle.std.specs.List.{before_first, starts_with}

-- A byte continues a character of UTF-8.
abbrev pub continues : ℕ → Bool
continues b = nat_le 128 b && nat_lt b 192

-- A text up to its first byte 0, as C reads it.
abbrev pub before_nul : List ℕ → List ℕ
before_nul text = before_first (λ b. b == 0) text

-- A text begins with another one.
abbrev pub begins_with : List ℕ → List ℕ → Bool
begins_with text front = starts_with nat_eq text front
