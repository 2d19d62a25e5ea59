-- The line that is being filled.
use Rattle.std.specs.Prelude.{◌≡◌, ℕ, ◌≤◌, List, length, map, chars, slice_range}
use Rattle.std.specs.Str.{IsCharBoundary}
use Rattle.std.specs.String.{string_bytes}
use Rattle.std.specs.declared.string.String.{String}
use Rattle.hyphenation_breaks.specs.Break.{Break}
use Rattle.linefill.specs.Cuts.{word_breaks}
use Rattle.linefill.specs.Private.Filling.{FillState, all_lines}
use Rattle.linefill.specs.declared.filling.OpenLine.{OpenLine}

-- The line lies in the text, and its width is the number of its characters.
pub record IsOpenLine (text : List ℕ) (open_line : OpenLine) : Type 0 where
  pub order : open_line.start ≤ open_line.end
  pub start : IsCharBoundary text open_line.start
  pub end : IsCharBoundary text open_line.end
  pub width : open_line.width ≡ length (chars (slice_range text open_line.start open_line.end))

-- The state that the line and the lines that are done have together.
abbrev pub state_of : {Z : Type 0} → OpenLine → List (String Z) → FillState
state_of open_line done = record { start = open_line.start; end = open_line.end; done = map string_bytes done }

-- All lines, done and to come, stay the same, by the breaks of words.
abbrev pub KeepsLines : {Z : Type 0} → (List ℕ → List Break) → List ℕ → ℕ → OpenLine → List (String Z) → OpenLine
    → List (String Z) → Type 0
KeepsLines breaks_of text columns old_line old_done new_line new_done =
    all_lines text columns (word_breaks breaks_of text) (state_of new_line new_done)
    ≡ all_lines text columns (word_breaks breaks_of text) (state_of old_line old_done)
