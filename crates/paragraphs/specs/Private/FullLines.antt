-- Lines that hold as much as fits, and those that are being made.
use Rattle.std.specs.Prelude.{◌≡◌, ℕ, ◌+◌, ◌<◌, ◌≤◌, List, [], ◌∷◌, ◌++◌, length, map, drop, sum_by}
use Rattle.std.specs.List.{slice_index_or}
use Rattle.std.specs.String.{string_bytes}
use Rattle.hyphenation_breaks.specs.Break.{Break}
use Rattle.line_division.specs.declared.stretch.Stretch.{Stretch}
use Rattle.line_division.specs.Lines.{stretch_at, joined_width}
use Rattle.line_division.specs.Division.{MayStand}
use Rattle.line_division.specs.Greedy.{IsFurthest}
use Rattle.paragraphs.specs.declared.full_lines.FullLines.{FullLines}
use Rattle.paragraphs.specs.Private.PartSettings.{settings_of}
use Rattle.paragraphs.specs.Settings.{Setting, stretch_of, line_text}
use Rattle.paragraphs.specs.Parts.{Style, word_parts}

-- The texts are the lines of parts, each of which holds as much as fits.
abbrev pub AreFull : ℕ → List Setting → List (List ℕ) → Type 0
AreFull columns parts [] = parts ≡ []
AreFull columns parts (text ∷ texts) =
    (end : ℕ) × IsFurthest (map stretch_of parts) columns 0 end × (text ≡ line_text parts 0 end)
    × AreFull columns (drop end parts) texts

-- The columns of a line before its next part.
abbrev pub joined_columns : List Stretch → ℕ
joined_columns stretches = (stretch_at stretches 0).opening + sum_by joined_width stretches

-- The last of some ends, or the start if there is none.
abbrev pub last_end : ℕ → List ℕ → ℕ
last_end start ends = slice_index_or (start ∷ ends) (length ends) 0

-- The open parts are measured. They may stand in one line, and leave it this room, of which a space takes one.
pub record IsOpen (full : FullLines) : Type 0 where
  pub measured : full.stretches.items ≡ map stretch_of (settings_of full.parts.items)
  pub room : 0 < full.room → joined_columns full.stretches.items + full.room ≤ full.columns + 1
  pub some : 0 < full.room → 0 < length full.stretches.items
  pub stands : 0 < length full.stretches.items
      → MayStand full.stretches.items full.columns 0 (length full.stretches.items)

-- The lines so far, and then the full lines of the open parts with those to come, are the full lines of all parts.
abbrev pub Lead : List Setting → FullLines → List Setting → Type 0
Lead all full rest = (later : List (List ℕ)) → AreFull full.columns (settings_of full.parts.items ++ rest) later
    → AreFull full.columns all (map string_bytes full.lines.items ++ later)

-- Some of the parts to come were added.
pub record IsAdded (old new : FullLines) (added : List Setting) : Type 0 where
  pub columns : new.columns ≡ old.columns
  pub leads : (all rest : List Setting) → Lead all old (added ++ rest) → Lead all new rest
  pub is_open : IsOpen new
  pub some : 0 < length new.stretches.items

-- The parts of a word that fits whole were added, wherever it may be broken.
abbrev pub IsAddedWhole : FullLines → FullLines → List ℕ → Type 0
IsAddedWhole old new word = (breaks_of : List ℕ → List Break) (style : Style)
    → IsAdded old new (word_parts breaks_of style style.indent word)

-- The columns of a line after its opening.
abbrev pub tail_width : List Stretch → ℕ
tail_width [] = 0
tail_width (s ∷ []) = s.width + s.closing
tail_width (s ∷ t ∷ ss) = joined_width s + tail_width (t ∷ ss)

-- No line that ends with the last part would be narrower if it went on.
abbrev pub EndsNarrow : List Setting → Type 0
EndsNarrow parts = tail_width (map stretch_of parts) ≤ sum_by joined_width (map stretch_of parts)
