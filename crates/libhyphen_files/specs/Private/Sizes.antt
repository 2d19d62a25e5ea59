-- The size of the first line of a text.
use Rattle.std.specs.Prelude.{ℕ, ◌+◌, ◌==◌, Bool, List, length, take, min}
use Rattle.std.specs.List.{position_or_len}
use Rattle.hyphenation_breaks.specs.Ascii.{line_feed}

abbrev pub is_feed : ℕ → Bool
is_feed b = b == line_feed

-- The number of bytes of the first line of a text, where a line has room for some bytes. They go up to its line feed, or are
-- as many as there are or fit.
abbrev pub line_size : ℕ → List ℕ → ℕ
line_size room text = min (position_or_len is_feed (take room text) + 1) (length (take room text))
