-- Places of characters, which are byte offsets.
use Rattle.std.specs.Prelude.{ℕ, List, length, take, chars, encode_utf8_all}

-- The place of character number j, counted from 0: the number of bytes of the characters before it. With too few
-- characters it is the text's end.
abbrev pub place_of_character : List ℕ → ℕ → ℕ
place_of_character text j = length (encode_utf8_all (take j (chars text)))
