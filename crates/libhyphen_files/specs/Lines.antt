-- The lines of a `.dic` as libhyphen reads them, with a room of 20 bytes for the first one and of 100 for each other.
-- Source: libhyphen 2.8.8, hyphen.c.
use Rattle.std.specs.Prelude.{ℕ, ◌-◌, ◌==◌, ◌||◌, nat_le, if◌then◌else◌, List, [], ◌∷◌, ◌++◌}
use Rattle.hyphenation_breaks.specs.Ascii.{line_feed}

-- The most bytes of the first line, and of each other one. The bytes that are over are the next line.
abbrev pub most_of_first : ℕ
most_of_first = 19

abbrev pub most_of_other : ℕ
most_of_other = 99

-- The last line, unless it is empty.
abbrev pub last_line : List ℕ → List (List ℕ)
last_line [] = []
last_line line = line ∷ []

-- The lines of the bytes that are left, where a line has begun and has room for some bytes more. A line ends behind its
-- line feed, or where its room ends.
unfoldable pub lines_from : List ℕ → ℕ → List ℕ → List (List ℕ)
lines_from line room [] = last_line line
lines_from line room (b ∷ bs) =
    if b == line_feed || nat_le room 1 then (line ++ b ∷ []) ∷ lines_from [] most_of_other bs
    else lines_from (line ++ b ∷ []) (room - 1) bs

-- The lines of a file.
abbrev pub lines_of : List ℕ → List (List ℕ)
lines_of bytes = lines_from [] most_of_first bytes
