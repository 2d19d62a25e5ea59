-- A paragraph as it is written.
use Rattle.std.specs.Prelude.{ℕ, List, [], ◌∷◌, ◌++◌}
use Rattle.hyphenation_breaks.specs.Break.{Break}
use Rattle.hyphenation_writer.specs.Canonical.{with_line_feeds}
use Rattle.linefill.specs.Lines.{lines_by}

-- The line feed of a paragraph that has no lines.
abbrev pub empty_line : List ℕ → List ℕ
empty_line [] = 10 ∷ []
empty_line (b ∷ bs) = []

-- The lines of a paragraph, each with a line feed after it; for an empty paragraph only a line feed.
abbrev pub paragraph_text : List ℕ → List (List ℕ) → List ℕ
paragraph_text paragraph lines = with_line_feeds lines ++ empty_line paragraph

-- A paragraph as it is written, filled by breaks to lines of at most these columns.
abbrev pub filled_paragraph : (List ℕ → List Break) → ℕ → List ℕ → List ℕ
filled_paragraph breaks columns paragraph = paragraph_text paragraph (lines_by breaks paragraph columns)
