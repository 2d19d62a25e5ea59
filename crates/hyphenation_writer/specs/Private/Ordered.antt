-- Texts sorted by their bytes.
use Rattle.std.specs.Prelude.{ℕ, List}
use Rattle.std.specs.FinMap as finite
use Rattle.hyphenation_breaks.specs.Dictionary.{TextMap}

-- The map of pairs; if a text comes twice, its first value counts.
abbrev pub as_texts : {X : Type 0} → List (List ℕ × List X) → TextMap (List X)
as_texts pairs = finite.from_entries pairs

-- The pairs, sorted by the bytes of their texts.
abbrev pub in_byte_order : {X : Type 0} → List (List ℕ × List X) → List (List ℕ × List X)
in_byte_order pairs = finite.entries (as_texts pairs)
