-- Numbers of a `.dic` of LibreOffice: C's `atoi`, of whose result one signed byte is kept.
-- Source: ISO C, strtol; libhyphen 2.8.8, hyphen.c.
use Rattle.std.specs.Prelude.{ℕ, ◌-◌, ◌%◌, ◌^◌, ◌==◌, ◌&&◌, ◌||◌, nat_le, nat_lt, Bool, if◌then◌else◌, List, [], ◌∷◌, drop, ℤ, pos, ◌-ℤ◌}
use Rattle.std.specs.List.{prefix_len, take_while}
use Rattle.std.specs.Char.{is_ascii_digit}
use Rattle.std.specs.Str.Parse.{digits_value}
use Rattle.hyphenation_breaks.specs.Ascii.{space, hyphen, plus}

-- The number that a byte is if it has a sign: from -128 to 127.
abbrev pub signed : ℕ → ℤ
signed byte = if nat_lt byte 128 then pos byte else pos byte -ℤ pos 256

-- C's white space.
abbrev pub is_space : ℕ → Bool
is_space b = b == space || (nat_le 9 b && nat_le b 13)

-- The number that the digits at the beginning of a text write; 0 without digits.
abbrev pub magnitude : List ℕ → ℕ
magnitude text = digits_value 10 (take_while is_ascii_digit text)

-- The lowest byte of a number and of its negative. Numbers beyond 64 bits are the greatest or the least of these.
abbrev pub lowest_byte : ℕ → ℕ
lowest_byte number = if nat_lt number (2 ^ 63) then number % 256 else 255

abbrev pub lowest_byte_of_negative : ℕ → ℕ
lowest_byte_of_negative number = if nat_lt number (2 ^ 63) then (256 - number % 256) % 256 else 0

-- The lowest byte of the number that a text writes after at most one sign.
abbrev pub byte_after_sign : List ℕ → ℕ
byte_after_sign [] = 0
byte_after_sign (b ∷ bs) =
    if b == hyphen then lowest_byte_of_negative (magnitude bs)
    else (if b == plus then lowest_byte (magnitude bs) else lowest_byte (magnitude (b ∷ bs)))

-- The lowest byte of the number that a text begins with, after white space; 0 if it begins with none.
abbrev pub number_byte : List ℕ → ℕ
number_byte text = byte_after_sign (drop (prefix_len is_space text) text)
