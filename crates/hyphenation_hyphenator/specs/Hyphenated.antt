-- A whole text with its words hyphenated.
-- Source of word bounds: UAX #29, Unicode Text Segmentation, as the kit's crate `unicode_segmentation` states it.
-- Source of hyphenating each piece between them: the documentation of the Rust crate `hyphenation`.
use Rattle.std.specs.Prelude.{ℕ, List}
use Rattle.std.specs.List.{flat_map}
use Rattle.unicode_segmentation.specs.Word.{word_bounds}
use Rattle.hyphenation_breaks.specs.Break.{Break}
use Rattle.hyphenation_segments.specs.Segments.{marked_word}

-- A text whose pieces between word bounds are each replaced by their marked segments.
abbrev pub hyphenated_text : (List ℕ → List Break) → List ℕ → List ℕ → List ℕ
hyphenated_text breaks mark text = flat_map (λ piece. marked_word mark piece (breaks piece)) (word_bounds text)
