-- The division into lines that is wanted.
use Rattle.std.specs.Prelude.{◌≡◌, ℕ, Option, List, map}
use Rattle.std.specs.List.{concat, flat_map}
use Rattle.hyphenation_breaks.specs.Break.{Break}
use Rattle.line_division.specs.declared.stretch.Stretch.{Stretch}
use Rattle.line_division.specs.Division.{Divides, CostsLeast, FitsIfAny, KeepsLadderIfAny, IsFewest}
use Rattle.line_division.specs.Greedy.{AreFurthest, IsOrderly}
use Rattle.paragraphs.specs.Settings.{Setting, stretch_of, joined_text, lines_to, unbroken_to}
use Rattle.paragraphs.specs.Parts.{Style, parts_of, ArePlain}
use Rattle.paragraphs.specs.declared.setting.Aim.{Aim}
use Rattle.paragraphs.specs.declared.setting.Aim.TheVariants.{Full, Even}

-- Each line holds as much as fits. In an orderly paragraph no division whose lines fit has fewer lines, and where there
-- is one, these lines fit.
pub record IsFull (stretches : List Stretch) (columns : ℕ) (row : List ℕ) : Type 0 where
  pub divides : Divides stretches columns 0 row
  pub furthest : AreFurthest stretches columns 0 row
  pub fewest : IsOrderly stretches → IsFewest stretches columns row
  pub fits : IsOrderly stretches → FitsIfAny stretches columns row

-- No division costs less. Where there is one whose lines fit, these do. Where these can keep to a ladder, they do: no
-- more of them in a row end in a hyphen.
pub record IsEven (stretches : List Stretch) (columns last_columns : ℕ) (ladder : Option ℕ) (row : List ℕ)
    : Type 0 where
  pub divides : Divides stretches columns 0 row
  pub least : CostsLeast stretches columns last_columns ladder row
  pub fits : FitsIfAny stretches columns row
  pub keeps : KeepsLadderIfAny stretches columns ladder row

-- A row of ends is as an aim asks for it.
abbrev pub IsAimedAt : Aim → List Stretch → ℕ → List ℕ → Type 0
IsAimedAt Full stretches columns row = IsFull stretches columns row
IsAimedAt (Even last_columns ladder) stretches columns row = IsEven stretches columns last_columns ladder row

-- These are lines of a paragraph's parts, to ends as an aim asks for them. Nothing is lost: as they would be in one
-- line, they join to the whole paragraph.
pub record IsSet (aim : Aim) (parts : List Setting) (columns : ℕ) (lines : List (List ℕ)) : Type 0 where
  pub row : List ℕ
  pub aimed : IsAimedAt aim (map stretch_of parts) columns row
  pub text : lines ≡ lines_to parts 0 row
  pub whole : concat (unbroken_to parts 0 row) ≡ flat_map joined_text parts

-- Where no break changes letters, a paragraph is orderly.
abbrev pub IsOrderlyIfPlain : (List ℕ → List Break) → Style → List (List ℕ) → Type 0
IsOrderlyIfPlain breaks_of style words =
    ArePlain breaks_of → IsOrderly (map stretch_of (parts_of breaks_of style words))
