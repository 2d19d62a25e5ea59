-- How far a walk over a text has come.

use Rattle.std.specs.Prelude.{◌≡◌, ℕ, ◌<◌, ◌≤◌, true, false, List, ◌∷◌, ◌++◌, length, reverse, encode_utf8}
use Rattle.std.specs.Str.{chars, IsCharBoundary}
use Rattle.unicode_segmentation.specs.Segments.{chars_before, breaks_at}
use Rattle.unicode_segmentation.specs.Steps.{IsFirstEnd}
use Rattle.unicode_segmentation.specs.Word.{is_word_break, significant, starts_with_half_flag}

-- The first piece of the text from `start` on ends at `end`, and no half of a flag ends there.
abbrev pub IsPlainEnd : List ℕ → ℕ → ℕ → Type 0
IsPlainEnd text start end =
    IsFirstEnd is_word_break text start (length text) end × (starts_with_half_flag (significant (chars_before text end)) ≡ false)

-- The text begins with a character, which the rest follows.
abbrev pub IsFirstChar : List ℕ → ℕ → List ℕ → Type 0
IsFirstChar text c rest = (chars text ≡ c ∷ chars rest) × (length rest < length text) × (text ≡ encode_utf8 c ++ rest)

-- The text ends with a character, which the rest precedes.
abbrev pub IsLastChar : List ℕ → ℕ → List ℕ → Type 0
IsLastChar text c rest = (reverse (chars text) ≡ c ∷ reverse (chars rest)) × (length rest < length text) × (text ≡ rest ++ encode_utf8 c)

-- There is a bound at an offset of the text, and no half of a flag ends there.
abbrev pub IsPlainBound : List ℕ → ℕ → Type 0
IsPlainBound text at =
    IsCharBoundary text at × (breaks_at is_word_break text at ≡ true) × (starts_with_half_flag (significant (chars_before text at)) ≡ false)

-- The bound is between two offsets of the text.
abbrev pub IsBoundBetween : List ℕ → ℕ → ℕ → ℕ → Type 0
IsBoundBetween text from to at = IsPlainBound text at × (from < at) × (at ≤ to) × (at < length text)
