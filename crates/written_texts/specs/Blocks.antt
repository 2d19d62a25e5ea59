-- The blocks of a text.
use Rattle.std.specs.Prelude.{ℕ, ◌==◌, ◌&&◌, nat_lt, Bool, true, false, not, if◌then◌else◌, List, [], ◌∷◌, ◌++◌, length}
use Rattle.std.specs.Prelude.{Option, Some, None}
use Rattle.std.specs.Str.Lines.{lines}
use Rattle.paragraphs.specs.Paragraphs.{ended}
use Rattle.written_texts.specs.Prefixes.{Prefix, prefix_of, quote_of, rest_of, signs_in, is_item}
use Rattle.written_texts.specs.Kept.{place_of_words, is_empty_line}
use Rattle.written_texts.specs.declared.place.LinePlace.{LinePlace}
use Rattle.written_texts.specs.declared.place.LinePlace.TheVariants.{Beginning, Head, Body, Fence, Tildes, Signature}

-- A paragraph: the prefix of its first line, that of its other lines, whether that is settled, and its text. It is
-- settled by the mark of an item, and by a second line.
pub record Paragraph : Type 0 where
  pub first : Prefix
  pub others : Prefix
  pub settled : Bool
  pub text : List ℕ

-- A part of a text: a line that stays as it is, or a paragraph.
pub data Block : Type 0 where
  Line : List ℕ → Block
  Filled : Paragraph → Block

-- The paragraph of one line.
abbrev pub begun : List ℕ → Paragraph
begun line = record {
  first = prefix_of line;
  others = prefix_of line;
  settled = is_item line;
  text = ended (rest_of line);
}

-- A paragraph with one line more.
abbrev pub with_line : Paragraph → List ℕ → Paragraph
with_line p line = record {
  first = p.first;
  others = if p.settled then p.others else prefix_of line;
  settled = true;
  text = p.text ++ ended (rest_of line);
}

-- A paragraph goes on with a line of as many quote signs.
abbrev pub is_open : Option Paragraph → List ℕ → Bool
is_open None line = false
is_open (Some p) line = signs_in p.first.quote == signs_in (quote_of line)

-- The lines so far: the place after them, the paragraph that may go on, and the empty line that comes before the next
-- line.
pub record State : Type 0 where
  pub place : LinePlace
  pub current : Option Paragraph
  pub gap : Option (List ℕ)

-- A paragraph as a block.
abbrev pub block_if_any : Option Paragraph → List Block
block_if_any None = []
block_if_any (Some p) = Filled p ∷ []

-- An empty line as a block.
abbrev pub gap_if_any : Option (List ℕ) → List Block
gap_if_any None = []
gap_if_any (Some quote) = Line quote ∷ []

-- The blocks that are complete where another block begins.
abbrev pub completed : State → List Block
completed state = block_if_any state.current ++ gap_if_any state.gap

-- The shorter of two quotes. Several empty lines are one, with the fewest signs.
abbrev pub shorter : Option (List ℕ) → List ℕ → List ℕ
shorter None quote = quote
shorter (Some gap) quote = if nat_lt (length gap) (length quote) then gap else quote

-- Blocks that a line completes, and the state after it.
pub record Step : Type 0 where
  pub blocks : List Block
  pub state : State

-- The place after an empty line. It ends a head and a signature.
abbrev pub place_after_empty : LinePlace → LinePlace
place_after_empty Beginning = Beginning
place_after_empty Head = Body
place_after_empty Body = Body
place_after_empty Fence = Body
place_after_empty Tildes = Body
place_after_empty Signature = Body

-- The empty line that is to come, after one with these quote signs. At the beginning of a text there is none.
abbrev pub gap_after_empty : LinePlace → Option (List ℕ) → List ℕ → Option (List ℕ)
gap_after_empty Beginning gap quote = None
gap_after_empty Head gap quote = Some (shorter gap quote)
gap_after_empty Body gap quote = Some (shorter gap quote)
gap_after_empty Fence gap quote = Some (shorter gap quote)
gap_after_empty Tildes gap quote = Some (shorter gap quote)
gap_after_empty Signature gap quote = Some (shorter gap quote)

-- An empty line ends a paragraph.
abbrev pub step_empty : State → List ℕ → Step
step_empty state line = record {
  blocks = block_if_any state.current;
  state = record {
    place = place_after_empty state.place;
    current = None;
    gap = gap_after_empty state.place state.gap (quote_of line);
  };
}

-- The paragraph that is open, with one line more.
abbrev pub joined : Option Paragraph → List ℕ → Paragraph
joined None line = begun line
joined (Some p) line = with_line p line

-- A line of prose goes on with the paragraph that is open, or begins one.
abbrev pub step_prose : State → List ℕ → Step
step_prose state line =
    if is_open state.current line && not (is_item line)
    then record { blocks = []; state = record { place = Body; current = Some (joined state.current line); gap = None } }
    else record { blocks = completed state; state = record { place = Body; current = Some (begun line); gap = None } }

-- A line that stays, after which this is the place, or a line of prose.
abbrev pub step_worded : State → List ℕ → Option LinePlace → Step
step_worded state line None = step_prose state line
step_worded state line (Some place) = record {
  blocks = completed state ++ Line line ∷ [];
  state = record { place = place; current = None; gap = None };
}

-- The step of a line.
abbrev pub step : State → List ℕ → Step
step state line =
    if is_empty_line state.place line then step_empty state line
    else step_worded state line (place_of_words state.place (is_open state.current line) line)

-- The blocks of lines, after those so far.
abbrev pub blocks_from : State → List (List ℕ) → List Block
blocks_from state [] = block_if_any state.current
blocks_from state (line ∷ lines) = (step state line).blocks ++ blocks_from (step state line).state lines

-- The state before the first line.
abbrev pub start : State
start = record { place = Beginning; current = None; gap = None }

-- The blocks of a text.
abbrev pub blocks : List ℕ → List Block
blocks text = blocks_from start (lines text)
