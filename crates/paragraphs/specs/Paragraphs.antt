-- The paragraphs of a text.
use Rattle.std.specs.Prelude.{◌≡◌, ℕ, ◌<◌, ◌==◌, Bool, false, not, if◌then◌else◌, List, [], ◌∷◌, ◌++◌, All, IsTrue}
use Rattle.std.specs.Prelude.{length, chars}
use Rattle.std.specs.List.{flat_map, list_all, slice_split}
use Rattle.paragraphs.specs.Words.{is_gap, if_any}

-- A byte is a line feed.
abbrev pub is_line_feed : ℕ → Bool
is_line_feed b = b == 10

-- The lines of a text: what is between its line feeds.
abbrev pub lines_of : List ℕ → List (List ℕ)
lines_of text = slice_split is_line_feed text

-- A line has only gaps.
abbrev pub is_blank : List ℕ → Bool
is_blank line = list_all is_gap (chars line)

-- A line with its line feed.
abbrev pub ended : List ℕ → List ℕ
ended line = line ++ 10 ∷ []

-- The paragraphs of lines, where this much of the first one is before them. A blank line ends a paragraph, and any
-- other line goes on with it.
abbrev pub gather : List ℕ → List (List ℕ) → List (List ℕ)
gather gathered [] = if_any gathered
gather gathered (line ∷ lines) =
    if is_blank line then if_any gathered ++ gather [] lines else gather (gathered ++ ended line) lines

-- The paragraphs of a text.
abbrev pub paragraphs : List ℕ → List (List ℕ)
paragraphs text = gather [] (lines_of text)

-- A text is one line, which is not blank.
pub record IsTextLine (line : List ℕ) : Type 0 where
  pub one : IsTrue (list_all (λ b. not (is_line_feed b)) line)
  pub worded : is_blank line ≡ false

-- A text is one or more of these lines, each with its line feed. So it has no blank line.
pub record IsParagraph (text : List ℕ) : Type 0 where
  pub lines : List (List ℕ)
  pub some : 0 < length lines
  pub each : All IsTextLine lines
  pub whole : text ≡ flat_map ended lines
