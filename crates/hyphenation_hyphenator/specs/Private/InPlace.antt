-- Folding over as many bytes: characters of one byte or two whose folding takes as many, and no soft hyphen.
use Rattle.std.specs.Prelude.{ℕ, ◌==◌, ◌&&◌, ◌||◌, not, nat_le, nat_lt, Bool}
use Rattle.hyphenation_hyphenator.specs.Folding.{fold_character}
use Rattle.hyphenation_hyphenator.specs.SoftHyphens.{soft_hyphen}

-- A character takes one byte, or it and its folding take two each and it is no soft hyphen.
abbrev pub folds_in_place : ℕ → Bool
folds_in_place c =
    nat_lt c 0x80
    || ((not (c == soft_hyphen) && nat_lt c 0x800) && (nat_le 0x80 (fold_character c) && nat_lt (fold_character c) 0x800))

-- A character is a capital of Latin-1 or of Russian. Those are U+00C0 to U+00DE without U+00D7, the multiplication sign, and
-- these U+0410 to U+042F.
abbrev pub is_common_capital : ℕ → Bool
is_common_capital c =
    ((nat_le 0xC0 c && nat_le c 0xD6) || (nat_le 0xD8 c && nat_le c 0xDE)) || (nat_le 0x410 c && nat_le c 0x42F)
