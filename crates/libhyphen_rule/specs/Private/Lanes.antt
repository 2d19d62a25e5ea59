-- The digits of the 16 last places, counted from 0, while a frame is read.
use Rattle.std.specs.Prelude.{◌≡◌, ℕ, ◌+◌, ◌<◌, max, List, [], ◌∷◌, length, take, slice_index, None}
use Rattle.hyphenation_breaks.specs.Ascii.{digit_zero}
use Rattle.hyphenation_dictionary.specs.Parts.{patterns_of}
use Rattle.hyphenation_trie.specs.Steps.{StandsFor}
use Rattle.hyphenation_trie.specs.Trie.{Tree}
use Rattle.libhyphen_files.specs.Patterns.{Pattern}
use Rattle.libhyphen_files.specs.Vectors.{AreVectorsBy}
use Rattle.libhyphen_files.specs.declared.vectors.NodeVectors.{NodeVectors}
use Rattle.libhyphen_rule.specs.Counting.{Counted, counted_up_to, framed}
use Rattle.libhyphen_rule.specs.OneLevel.{offers, digit_at}
use Rattle.libhyphen_rule.specs.declared.plain_words.FramePass.{FramePass}

-- All lanes are digits.
abbrev pub AllKnown : List ℕ → Type 0
AllKnown seen = (lane : ℕ) → lane < 16 → slice_index seen lane < 10

-- No pattern changes letters.
abbrev pub AllPlain : List Counted → Type 0
AllPlain [] = Unit {0}
AllPlain (c ∷ cs) = (c.change ≡ None) × AllPlain cs

-- The digits by the patterns that end in the first bytes of a frame. The last lane is that of the place behind these
-- bytes. In the list 14 other items are before that of the first place.
pub record IsFound (counted : List Counted) (bytes : ℕ) (last list : List ℕ) : Type 0 where
  pub plain : AllPlain counted
  pub each : (lane place : ℕ) → lane < 16 → place + 15 ≡ bytes + lane
      → digit_at (offers counted) place ≡ digit_zero + slice_index last lane
  pub ahead : (place : ℕ) → bytes < place → digit_at (offers counted) place ≡ digit_zero
  pub written : (place : ℕ) → place < bytes
      → digit_at (offers counted) place ≡ digit_zero + slice_index list (place + 14)
  pub digits : (lane : ℕ) → lane < 16 → slice_index last lane < 10
  pub written_digits : (place : ℕ) → place < bytes → slice_index list (place + 14) < 10

-- The row is that of the text, in the table of steps to these vectors.
pub record AtRow (tree : Tree Pattern) (vectors : NodeVectors) (text : List ℕ) (row : ℕ) : Type 0 where
  pub numbers : List ℕ
  pub are_vectors : AreVectorsBy tree numbers vectors
  pub stands : StandsFor tree numbers vectors.steps row text

-- The first bytes of a frame are read. The digits are known if all vectors that were met are.
pub record IsPassed (tree : Tree Pattern) (vectors : NodeVectors) (frame : List ℕ) (bytes : ℕ) (pass : FramePass) (list : List ℕ) : Type 0 where
  pub lanes : length pass.last ≡ 16
  pub seen_lanes : length pass.seen ≡ 16
  pub at_row : AtRow tree vectors (take bytes frame) pass.row
  pub found : AllKnown pass.seen → IsFound (counted_up_to (patterns_of tree) frame bytes) bytes pass.last list

-- One byte more of each frame is read that has this byte next.
abbrev pub PassesByte : Tree Pattern → NodeVectors → ℕ → ℕ → FramePass → List ℕ → FramePass → List ℕ → Type 0
PassesByte tree vectors at byte pass old passed new =
    (frame : List ℕ) → at < length frame → byte ≡ slice_index frame at → IsPassed tree vectors frame at pass old
    → IsPassed tree vectors frame (at + 1) passed new

-- The digits of the 16 last places are moved by one place, raised to those of a vector, and written to a list.
pub record TakesVector (vector : List ℕ) (at : ℕ) (pass : FramePass) (old : List ℕ) (passed : FramePass) (new : List ℕ) : Type 0 where
  pub lanes : length passed.last ≡ 16
  pub seen_lanes : length passed.seen ≡ 16
  pub each : (lane : ℕ) → lane < 16 → slice_index passed.last lane ≡ max (slice_index pass.last (lane + 1)) (slice_index vector lane)
  pub seen : (lane : ℕ) → lane < 16 → slice_index passed.seen lane ≡ max (slice_index pass.seen lane) (slice_index vector lane)
  pub written : (lane : ℕ) → lane < 16 → slice_index new (at + lane) ≡ slice_index passed.last lane
  pub before : (i : ℕ) → i < at → slice_index new i ≡ slice_index old i

-- The whole frame of a word is read. The digits are known if all vectors that were met are.
pub record IsReadWhole (tree : Tree Pattern) (word : List ℕ) (pass : FramePass) (list : List ℕ) : Type 0 where
  pub seen_lanes : length pass.seen ≡ 16
  pub found : AllKnown pass.seen
      → IsFound (counted_up_to (patterns_of tree) (framed word) (length word + 2)) (length word + 2) pass.last list
