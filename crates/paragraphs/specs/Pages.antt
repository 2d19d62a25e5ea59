-- The lines of a text.
use Rattle.std.specs.Prelude.{◌≡◌, ◌⊎◌, ℕ, List, [], ◌∷◌, ◌++◌, ⊤}
use Rattle.std.specs.List.{flat_map}
use Rattle.hyphenation_breaks.specs.Break.{Break}
use Rattle.paragraphs.specs.Words.{words}
use Rattle.paragraphs.specs.Paragraphs.{paragraphs}
use Rattle.paragraphs.specs.declared.setting.Aim.{Aim}
use Rattle.paragraphs.specs.Aims.{IsSet, IsOrderlyIfPlain}
use Rattle.paragraphs.specs.Settings.{IsTooLong}
use Rattle.paragraphs.specs.Parts.{Style, parts_of, KeepWords}

-- These are lines of a paragraph, as an aim asks for them, and no word of it is lost. Where no break changes letters,
-- the paragraph is orderly.
pub record IsFilled (aim : Aim) (breaks_of : List ℕ → List Break) (style : Style) (columns : ℕ)
    (text : List ℕ) (lines : List (List ℕ)) : Type 0 where
  pub set : IsSet aim (parts_of breaks_of style (words text)) columns lines
  pub keeps : KeepWords breaks_of style (words text)
  pub orderly : IsOrderlyIfPlain breaks_of style (words text)

-- Each paragraph has its lines.
abbrev pub AreFilled : Aim → (List ℕ → List Break) → Style → ℕ → List (List ℕ) → List (List (List ℕ)) → Type 0
AreFilled aim breaks_of style columns [] [] = ⊤
AreFilled aim breaks_of style columns [] (lines ∷ rows) = ⊥
AreFilled aim breaks_of style columns (text ∷ texts) [] = ⊥
AreFilled aim breaks_of style columns (text ∷ texts) (lines ∷ rows) =
    IsFilled aim breaks_of style columns text lines × AreFilled aim breaks_of style columns texts rows

-- Lines after an empty one.
abbrev pub apart : List (List ℕ) → List (List ℕ)
apart lines = [] ∷ lines

-- The lines of paragraphs, with an empty line between two of them.
abbrev pub page : List (List (List ℕ)) → List (List ℕ)
page [] = []
page (first ∷ others) = first ++ flat_map apart others

-- These are the lines of all paragraphs of a text.
pub record IsPage (aim : Aim) (breaks_of : List ℕ → List Break) (style : Style) (columns : ℕ)
    (text : List ℕ) (lines : List (List ℕ)) : Type 0 where
  pub rows : List (List (List ℕ))
  pub each : AreFilled aim breaks_of style columns (paragraphs text) rows
  pub whole : lines ≡ page rows

-- One of the paragraphs is too long.
abbrev pub HasTooLong : (List ℕ → List Break) → Style → List (List ℕ) → Type 0
HasTooLong breaks_of style [] = ⊥
HasTooLong breaks_of style (text ∷ texts) =
    IsTooLong (parts_of breaks_of style (words text)) ⊎ HasTooLong breaks_of style texts
