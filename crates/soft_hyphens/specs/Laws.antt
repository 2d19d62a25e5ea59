-- Laws of texts without their soft hyphens.
use Rattle.std.specs.Prelude.{◌≡◌, ℕ, false, List, map, chars, IsUtf8}
use Rattle.std.specs.List.{list_any}
use Rattle.hyphenation_breaks.specs.Break.{plain_break}
use Rattle.hyphenation_segments.specs.Fits.{Fits}
use Rattle.hyphenation_segments.specs.Laws.{with_marks}
use Rattle.soft_hyphens.specs.Removed.{is_soft_hyphen, removed, soft_hyphen}

-- Soft hyphens at breaks that fit a text come out of it again.
abbrev pub MarksComeOut : Type 0
MarksComeOut = (text places : List ℕ) → IsUtf8 text → Fits text (map plain_break places)
    → removed (with_marks soft_hyphen text places) ≡ removed text

-- So a text that has none comes back.
abbrev pub TextComesBack : Type 0
TextComesBack = (text places : List ℕ) → IsUtf8 text → Fits text (map plain_break places)
    → list_any is_soft_hyphen (chars text) ≡ false → removed (with_marks soft_hyphen text places) ≡ text
