-- Lines of which the paragraphs are gathered.
use Rattle.std.specs.Prelude.{◌≡◌, ℕ, List, [], ◌∷◌, ◌++◌, map}
use Rattle.std.specs.String.{string_bytes}
use Rattle.std.specs.declared.string.String.{String}
use Rattle.std.specs.List.{flat_map}
use Rattle.paragraphs.specs.Words.{words}
use Rattle.paragraphs.specs.Paragraphs.{gather}

-- Paragraphs as texts.
abbrev pub texts_of : {Z : Type 0} → List (String Z) → List (List ℕ)
texts_of paragraphs = map string_bytes paragraphs

-- The words of some lines are those of the paragraphs, and of the paragraph that is gathered. A text after this one has
-- its own words.
pub record AreGathered (all : List (List ℕ)) (gathered : List ℕ) (lines : List (List ℕ)) : Type 0 where
  pub same : flat_map words all ++ words gathered ≡ flat_map words lines
  pub parted : (after : List ℕ) → words (gathered ++ after) ≡ words gathered ++ words after

-- A line was passed: whatever lines follow, the paragraphs stay the same, and so do the words.
pub record PassesLine (all : List (List ℕ)) (gathered line : List ℕ) (new_all : List (List ℕ)) (new_gathered : List ℕ)
    : Type 0 where
  pub paragraphs : (others : List (List ℕ))
      → new_all ++ gather new_gathered others ≡ all ++ gather gathered (line ∷ others)
  pub worded : (lines : List (List ℕ)) → AreGathered all gathered lines
      → AreGathered new_all new_gathered (lines ++ line ∷ [])
