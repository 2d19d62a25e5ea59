-- Letters and line feeds, as both readers of patterns count them.
use Rattle.std.specs.Prelude.{ℕ, ◌==◌, if◌then◌else◌, List, [], ◌∷◌}
use Rattle.std.specs.List.{count_by}
use Rattle.hyphenation_breaks.specs.Ascii.{line_feed}
use Rattle.hyphenation_grammar.specs.Lines.{is_digit}

-- The letters of a pattern: all but its digits.
abbrev pub letters : List ℕ → List ℕ
letters [] = []
letters (b ∷ bs) = if is_digit b then letters bs else b ∷ letters bs

-- The number of a text's line feeds.
abbrev pub line_feeds : List ℕ → ℕ
line_feeds text = count_by (λ b. b == line_feed) text
