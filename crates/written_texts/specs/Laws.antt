-- Statements that are true of all texts.
use Rattle.std.specs.Prelude.{◌≡◌, ◌⊎◌, ℕ, ◌||◌, Bool, false, not, List, [], ◌∷◌, ◌++◌, filter, None, ⊤}
use Rattle.std.specs.List.{All, flat_map, list_all}
use Rattle.std.specs.Str.Lines.{strip_carriage_return}
use Rattle.hyphenation_breaks.specs.Break.{Break}
use Rattle.paragraphs.specs.Pages.{IsPage}
use Rattle.paragraphs.specs.Paragraphs.{is_blank, lines_of}
use Rattle.paragraphs.specs.Parts.{Style}
use Rattle.paragraphs.specs.declared.setting.Aim.{Aim}
use Rattle.written_texts.specs.Prefixes.{is_sign, quote_length, lead_length, written_prefix, blank_prefix}
use Rattle.written_texts.specs.Kept.{is_white, place_of_words}
use Rattle.written_texts.specs.Blocks.{Paragraph, Block, Line, Filled, blocks}
use Rattle.written_texts.specs.Written.{IsBlockSet, IsWritten}
use Rattle.written_texts.specs.declared.place.LinePlace.TheVariants.{Beginning}

-- A byte is no white space and no quote sign.
abbrev pub is_seen : ℕ → Bool
is_seen b = not (is_white b || is_sign b)

-- A text without its white space and its quote signs.
abbrev pub seen : List ℕ → List ℕ
seen text = filter is_seen text

-- A block as text: a line, or a paragraph after the prefix of its first line.
abbrev pub block_text : Block → List ℕ
block_text (Line line) = line
block_text (Filled p) = p.first.quote ++ p.first.lead ++ p.text

-- The same without white space and quote signs.
abbrev pub seen_in : Block → List ℕ
seen_in block = seen (block_text block)

-- The blocks of each text have all of it, in its order.
abbrev pub BlocksKeepTexts : Type 0
BlocksKeepTexts = (text : List ℕ) → flat_map seen_in (blocks text) ≡ seen text

-- A line is prose: it has a word, no quote, no indent and no mark. It does not stay as it is, wherever it is.
pub record IsProse (line : List ℕ) : Type 0 where
  pub unquoted : quote_length line ≡ 0
  pub unled : lead_length line ≡ 0
  pub worded : is_blank line ≡ false
  pub dark : list_all is_white line ≡ false
  pub filled : place_of_words Beginning false line ≡ None
  pub whole : strip_carriage_return line ≡ line

-- A line is prose, or empty.
abbrev pub IsProseLine : List ℕ → Type 0
IsProseLine line = (line ≡ []) ⊎ IsProse line

-- The lines of a text without signs are those of its paragraphs.
abbrev pub ProseIsFilledAlike : Type 0
ProseIsFilledAlike =
    (aim : Aim) (breaks_of : List ℕ → List Break) (style : Style) (columns : ℕ) (text : List ℕ) (lines : List (List ℕ))
    → All IsProseLine (lines_of text) → IsWritten aim breaks_of style columns text lines
    → IsPage aim breaks_of style columns text lines

-- A text begins with another one.
pub record Begins (with text : List ℕ) : Type 0 where
  pub rest : List ℕ
  pub whole : text ≡ with ++ rest

-- The first line begins with a text, and each other line with another one.
abbrev pub LinesBegin : List ℕ → List ℕ → List (List ℕ) → Type 0
LinesBegin first others [] = ⊤
LinesBegin first others (line ∷ lines) = Begins first line × All (Begins others) lines

-- The lines of a paragraph have its prefixes, after the text that is asked for before lines. The first line has that of
-- the paragraph's first line. Each other line has that of the other lines, with spaces in place of indent and mark.
abbrev pub LinesKeepPrefixes : Type 0
LinesKeepPrefixes =
    (aim : Aim) (breaks_of : List ℕ → List Break) (style : Style) (columns : ℕ) (p : Paragraph) (lines : List (List ℕ))
    → IsBlockSet aim breaks_of style columns (Filled p) lines
    → LinesBegin (style.first ++ written_prefix p.first) (style.indent ++ blank_prefix p.others) lines
