-- Lowercase letters that are common in words: of ASCII, Latin-1 and Cyrillic, and the long vowels of Hungarian. None is
-- a capital or a soft hyphen.
use Rattle.std.specs.Prelude.{ℕ, ◌==◌, ◌&&◌, ◌||◌, nat_le, nat_lt, if◌then◌else◌, Bool, true, List, [], ◌∷◌}
use Rattle.std.specs.Char.{is_ascii_lowercase}

-- A character is a common lowercase letter. U+00F7, the division sign, lies among those of Latin-1 and counts as one.
abbrev pub is_common_lowercase : ℕ → Bool
is_common_lowercase c =
    (((nat_le 0x61 c && nat_le c 0x7A) || (nat_le 0xDF c && nat_le c 0xFF)) || (nat_le 0x430 c && nat_le c 0x45F))
    || (c == 0x151 || c == 0x171)

-- Two bytes encode a common lowercase letter: 0x430 to 0x43F, 0x440 to 0x45F, 0xDF to 0xFF, 0x151 or 0x171.
abbrev pub is_common_pair : ℕ → ℕ → Bool
is_common_pair first second =
    (((first == 0xD0 && (nat_le 0xB0 second && nat_le second 0xBF))
    || (first == 0xD1 && (nat_le 0x80 second && nat_le second 0x9F)))
    || (first == 0xC3 && (nat_le 0x9F second && nat_le second 0xBF)))
    || (first == 0xC5 && (second == 0x91 || second == 0xB1))

-- The bytes encode only common lowercase letters.
abbrev pub are_common_lowercase : List ℕ → Bool
are_common_lowercase [] = true
are_common_lowercase (first ∷ []) = is_ascii_lowercase first
are_common_lowercase (first ∷ second ∷ rest) =
    if nat_lt first 0x80
    then is_ascii_lowercase first && are_common_lowercase (second ∷ rest)
    else (is_common_pair first second && are_common_lowercase rest)
