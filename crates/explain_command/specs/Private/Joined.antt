-- Texts of words, joined one after the other.
use Rattle.std.specs.Prelude.{ℕ, ◌==◌, if◌then◌else◌, List, [], ◌∷◌}
use Rattle.hyphenation_breaks.specs.Ascii.{line_feed}

-- The empty line before the text of each word but the first.
abbrev pub gap_before : ℕ → List ℕ
gap_before index = if index == 0 then [] else line_feed ∷ []
