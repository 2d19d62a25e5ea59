-- Lines that are added to a page.
use Rattle.std.specs.Prelude.{◌≡◌, ℕ, List, ◌++◌, map}
use Rattle.std.specs.String.{string_bytes}
use Rattle.std.specs.declared.string.String.{String}
use Rattle.hyphenation_breaks.specs.Break.{Break}
use Rattle.paragraphs.specs.Parts.{Style}
use Rattle.paragraphs.specs.declared.setting.Aim.{Aim}
use Rattle.written_texts.specs.Blocks.{Block}
use Rattle.written_texts.specs.Written.{IsBlockSet}

-- Lines as texts.
abbrev pub texts_of : {Z : Type 0} → List (String Z) → List (List ℕ)
texts_of lines = map string_bytes lines

-- The lines of a block were added.
pub record AddsBlock (aim : Aim) (breaks_of : List ℕ → List Break) (style : Style) (columns : ℕ)
    (block : Block) (old new : List (List ℕ)) : Type 0 where
  pub row : List (List ℕ)
  pub set : IsBlockSet aim breaks_of style columns block row
  pub added : new ≡ old ++ row
