-- Words in which no pattern counts that changes letters.
use Rattle.std.specs.Prelude.{◌≡◌, ℕ, ◌<◌, false, List, length, map, replicate, slice_index, None}
use Rattle.hyphenation_breaks.specs.Ascii.{dot}
use Rattle.hyphenation_breaks.specs.Dictionary.{TextMap}
use Rattle.libhyphen_files.specs.Patterns.{Pattern}
use Rattle.libhyphen_files.specs.Vectors.{BeginsNoKey}
use Rattle.libhyphen_rule.specs.Counting.{shown}
use Rattle.libhyphen_rule.specs.Parts.{Found}

-- The text has no digits: patterns see it as it is.
abbrev pub HasNoDigits : List ℕ → Type 0
HasNoDigits text = map shown text ≡ text

-- No key begins in the text's frame.
pub record BeginsNone (patterns : TextMap (List Pattern)) (text : List ℕ) : Type 0 where
  pub dotted : BeginsNoKey patterns dot
  pub each : (byte : ℕ) → byte < length text → BeginsNoKey patterns (slice_index text byte)

-- These digits are found, and no change is made.
pub record FindsPlain (found : Found) (digits : List ℕ) : Type 0 where
  pub digits_are : found.digits ≡ digits
  pub no_changes : found.changes ≡ replicate (length digits) None
  pub not_made : found.made ≡ false
