-- A text with a soft hyphen at each break of its words.
use Rattle.std.specs.Prelude.{ℕ, List, [], ◌∷◌}
use Rattle.hyphenation_breaks.specs.Break.{Break}
use Rattle.hyphenation_segments.specs.Segments.{marked_word}
use Rattle.hyphenation_hyphenator.specs.SoftHyphens.{soft_hyphens}

-- U+00AD in UTF-8.
abbrev pub soft_hyphen : List ℕ
soft_hyphen = 0xC2 ∷ 0xAD ∷ []

-- The piece as it is if it has soft hyphens, else what it becomes.
abbrev pub unless_marked : List ℕ → List ℕ → List ℕ → List ℕ
unless_marked [] piece becomes = becomes
unless_marked (place ∷ places) piece becomes = piece

-- A piece with a soft hyphen at each break, or as it is if it has soft hyphens of its own.
abbrev pub with_soft_hyphens : (List ℕ → List Break) → List ℕ → List ℕ
with_soft_hyphens breaks piece = unless_marked (soft_hyphens piece) piece (marked_word soft_hyphen piece (breaks piece))
