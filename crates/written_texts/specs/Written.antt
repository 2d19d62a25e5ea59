-- The lines of a text as people write it.
use Rattle.std.specs.Prelude.{◌≡◌, ◌⊎◌, ℕ, ◌==◌, if◌then◌else◌, List, [], ◌∷◌, ◌++◌, length, ⊤}
use Rattle.hyphenation_breaks.specs.Break.{Break}
use Rattle.paragraphs.specs.Pages.{IsFilled}
use Rattle.paragraphs.specs.Parts.{Style, parts_of}
use Rattle.paragraphs.specs.Settings.{IsTooLong}
use Rattle.paragraphs.specs.Words.{words}
use Rattle.paragraphs.specs.declared.setting.Aim.{Aim}
use Rattle.written_texts.specs.Prefixes.{written_prefix, blank_prefix}
use Rattle.written_texts.specs.Blocks.{Paragraph, Block, Line, Filled, blocks}

-- The style of a paragraph: before each line are the text that is asked for, and the prefix.
abbrev pub style_for : Style → Paragraph → Style
style_for style p = record {
  first = style.first ++ written_prefix p.first;
  indent = style.indent ++ blank_prefix p.others;
  price = style.price;
}

-- A line that stays, after the text that is asked for before lines. Before an empty line there is none.
abbrev pub set_line : Style → List ℕ → List ℕ
set_line style line = if length line == 0 then [] else style.indent ++ line

-- These are the lines of a block.
abbrev pub IsBlockSet : Aim → (List ℕ → List Break) → Style → ℕ → Block → List (List ℕ) → Type 0
IsBlockSet aim breaks_of style columns (Line line) row = row ≡ set_line style line ∷ []
IsBlockSet aim breaks_of style columns (Filled p) row = IsFilled aim breaks_of (style_for style p) columns p.text row

-- Each block has its lines.
abbrev pub AreSet : Aim → (List ℕ → List Break) → Style → ℕ → List Block → List (List (List ℕ)) → Type 0
AreSet aim breaks_of style columns [] [] = ⊤
AreSet aim breaks_of style columns [] (row ∷ rows) = ⊥
AreSet aim breaks_of style columns (block ∷ blocks) [] = ⊥
AreSet aim breaks_of style columns (block ∷ blocks) (row ∷ rows) =
    IsBlockSet aim breaks_of style columns block row × AreSet aim breaks_of style columns blocks rows

-- The lines of all blocks.
abbrev pub together : List (List (List ℕ)) → List (List ℕ)
together [] = []
together (row ∷ rows) = row ++ together rows

-- These are the lines of a text: those of its blocks.
pub record IsWritten (aim : Aim) (breaks_of : List ℕ → List Break) (style : Style) (columns : ℕ)
    (text : List ℕ) (lines : List (List ℕ)) : Type 0 where
  pub rows : List (List (List ℕ))
  pub each : AreSet aim breaks_of style columns (blocks text) rows
  pub whole : lines ≡ together rows

-- One of the paragraphs is too long.
abbrev pub HasTooLong : (List ℕ → List Break) → Style → List Block → Type 0
HasTooLong breaks_of style [] = ⊥
HasTooLong breaks_of style (Line line ∷ blocks) = HasTooLong breaks_of style blocks
HasTooLong breaks_of style (Filled p ∷ blocks) =
    IsTooLong (parts_of breaks_of (style_for style p) (words p.text)) ⊎ HasTooLong breaks_of style blocks
