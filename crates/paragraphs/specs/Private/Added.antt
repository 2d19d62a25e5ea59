-- Lines that are added to a page.
use Rattle.std.specs.Prelude.{◌≡◌, ℕ, List, ◌++◌, map}
use Rattle.std.specs.String.{string_bytes}
use Rattle.std.specs.declared.string.String.{String}
use Rattle.hyphenation_breaks.specs.Break.{Break}
use Rattle.paragraphs.specs.Pages.{IsFilled}
use Rattle.paragraphs.specs.Parts.{Style}
use Rattle.paragraphs.specs.declared.setting.Aim.{Aim}

-- Lines as texts.
abbrev pub texts_of : {Z : Type 0} → List (String Z) → List (List ℕ)
texts_of lines = map string_bytes lines

-- The lines of a paragraph were added.
pub record AddsLines (aim : Aim) (breaks_of : List ℕ → List Break) (style : Style) (columns : ℕ)
    (text : List ℕ) (old new : List (List ℕ)) : Type 0 where
  pub lines : List (List ℕ)
  pub filled : IsFilled aim breaks_of style columns text lines
  pub added : new ≡ old ++ lines
