-- The first and the last place at which the minima allow a break.
use Rattle.std.specs.Prelude.{ℕ, ◌+◌, ◌-◌, ◌&&◌, nat_le, nat_lt, max, List, length, Option, None, Some, chars, if◌then◌else◌}
use Rattle.hyphenation_hyphenator.specs.Places.{place_of_character}

-- The boundaries of a word of c characters, for the minima l and r: the places of characters l and c - max r 1. There
-- are none where the word has fewer than l + r characters, or no more than l.
abbrev pub boundaries : ℕ → ℕ → List ℕ → Option (ℕ × ℕ)
boundaries l r word =
    if nat_le (l + r) (length (chars word)) && nat_lt l (length (chars word))
    then Some (place_of_character word l, place_of_character word (length (chars word) - max r 1))
    else None
