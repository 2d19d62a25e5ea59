use Rattle.std.proofs.Common.{◌≡◌, ℕ, ◌<◌, List, ◌++◌, length}
use Rattle.std.specs.Str.Iter.{chars_rest}
use Rattle.composed_words.proofs.segments.split_segment.Given as goal

abbrev pub invariant-scan : goal.invariant-scan
invariant-scan l = (front : List ℕ) × (l.text ≡ front ++ chars_rest l.iter) × (0 < length l.text → 0 < length front)

abbrev pub decreases-scan : goal.decreases-scan
decreases-scan l = length (chars_rest l.iter)
