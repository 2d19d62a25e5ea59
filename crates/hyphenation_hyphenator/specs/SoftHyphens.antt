-- The soft hyphens of a word: the character U+00AD of the Unicode Standard (bytes c2 ad in UTF-8).
use Rattle.std.specs.Prelude.{ℕ, ◌==◌, List, Bool, length, map, filter, chars, slice_index}
use Rattle.std.specs.List.{range_with_len}
use Rattle.hyphenation_hyphenator.specs.Places.{place_of_character}

-- The number of the soft hyphen.
abbrev pub soft_hyphen : ℕ
soft_hyphen = 0xAD

-- Character number j, counted from 0, is a soft hyphen.
abbrev pub is_soft_hyphen : List ℕ → ℕ → Bool
is_soft_hyphen text j = slice_index (chars text) j == soft_hyphen

-- The places at which soft hyphens begin, in ascending order.
abbrev pub soft_hyphens : List ℕ → List ℕ
soft_hyphens text =
    map (place_of_character text) (filter (is_soft_hyphen text) (range_with_len 0 (length (chars text))))
