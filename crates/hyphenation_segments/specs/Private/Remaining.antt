-- The state of `Segments`: the segments to come, and the breaks that are left.
use Rattle.std.specs.Prelude.{◌≡◌, ℕ, List, [], Option, None, Some}
use Rattle.std.specs.Str.{IsCharBoundary}
use Rattle.hyphenation_breaks.specs.Break.{Break, plain_break}
use Rattle.hyphenation_segments.specs.Fits.{FitsFrom}
use Rattle.hyphenation_segments.specs.Segments.{segments_after}

-- The segments to come. The start is the place of the last break; there is none after the last segment.
abbrev pub segments_from : List ℕ → Option ℕ → List Break → List (List ℕ)
segments_from text None breaks = []
segments_from text (Some start) breaks = segments_after text (plain_break start) breaks

-- The breaks to come fit the text after the start. After the last segment there are none.
abbrev pub FitsAfterStart : List ℕ → Option ℕ → List Break → Type 0
FitsAfterStart text None breaks = breaks ≡ []
FitsAfterStart text (Some start) breaks = IsCharBoundary text start × FitsFrom text start start breaks
