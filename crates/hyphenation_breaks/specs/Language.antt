-- Codes of languages. Source: a rule of this project.
use Rattle.std.specs.Prelude.{ℕ, ◌&&◌, ◌||◌, ◌==◌, nat_le, Bool, List, length, IsTrue}
use Rattle.std.specs.List.{list_all}
use Rattle.hyphenation_breaks.specs.Ascii.{letter_a, letter_z, digit_zero, digit_nine, hyphen}

-- A byte may occur in a code: it is one of a-z, 0-9 and the hyphen.
abbrev pub is_code_byte : ℕ → Bool
is_code_byte b =
    (nat_le letter_a b && nat_le b letter_z) || (nat_le digit_zero b && nat_le b digit_nine) || b == hyphen

-- A text is a code: it has 1 to 32 bytes, each of which may occur in a code.
abbrev pub is_code : List ℕ → Bool
is_code text = nat_le 1 (length text) && nat_le (length text) 32 && list_all is_code_byte text

-- A text is a code, as a fact.
abbrev pub IsCode : List ℕ → Type 0
IsCode text = IsTrue (is_code text)
