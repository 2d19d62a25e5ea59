-- Where a text may be cut.
use Rattle.std.specs.Prelude.{◌≡◌, ◌⊎◌, ℕ, ◌-◌, ◌<◌, ◌≤◌, List, length, slice_index}

-- This number of bytes of a text is none, or the last of them is of ASCII.
abbrev pub EndsInAscii : List ℕ → ℕ → Type 0
EndsInAscii text n = (n ≡ 0) ⊎ ((0 < n) × (n ≤ length text) × (slice_index text (n - 1) < 128))
