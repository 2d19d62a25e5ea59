-- Occurrences of keys, counted by their ends.
use Rattle.std.specs.Prelude.{ℕ, List, length, slice_range, is_some, count_by}
use Rattle.std.specs.List.{range_with_len, sum_by}
use Rattle.hyphenation_breaks.specs.Dictionary.{Patterns}

-- The number of keys, other than the empty one, that occur up to an end in the frame.
abbrev pub keys_ending : {C : Type 0} → Patterns C → List ℕ → ℕ → ℕ
keys_ending keys framed end = count_by (λ start. is_some (keys (slice_range framed start end))) (range_with_len 0 end)

-- The number of occurrences of keys in a frame: of pairs of a start and a greater end between which the text is a key.
abbrev pub occurrences : {C : Type 0} → Patterns C → List ℕ → ℕ
occurrences keys framed = sum_by (λ end. keys_ending keys framed end) (range_with_len 1 (length framed))
