-- Words of printable ASCII.
use Rattle.std.specs.Prelude.{◌≡◌, ℕ, ◌<◌, ◌≤◌, ◌==◌, ◌||◌, Bool, true, List, length}
use Rattle.std.specs.Prelude.{slice_index}
use Rattle.std.specs.Char.{is_ascii_alphabetic}
use Rattle.std.specs.Int.{is_in_range}
use Rattle.std.specs.List.{list_all}

-- A byte is a printable character of ASCII, but no space.
abbrev pub is_plain : ℕ → Bool
is_plain b = is_in_range 0x21 0x7E b

-- A text has some letters of ASCII, and nothing else.
abbrev pub AreLetters : List ℕ → Type 0
AreLetters text = (0 < length text) × (list_all is_ascii_alphabetic text ≡ true)

-- A byte is a gap of ASCII.
abbrev pub is_ascii_gap : ℕ → Bool
is_ascii_gap b = b == 32 || is_in_range 9 13 b

-- Each byte from a place up to another one passes a test.
abbrev pub EachBetween : (ℕ → Bool) → List ℕ → ℕ → ℕ → Type 0
EachBetween test bytes start end = (k : ℕ) → start ≤ k → k < end → test (slice_index bytes k) ≡ true

-- A gap of ASCII begins at a place, or the bytes end there.
abbrev pub EndsAt : List ℕ → ℕ → Type 0
EndsAt bytes place = place < length bytes → is_ascii_gap (slice_index bytes place) ≡ true

-- A word of these characters is between two places.
pub record IsPlainWord (bytes : List ℕ) (start end : ℕ) : Type 0 where
  pub after : start < end
  pub within : end ≤ length bytes
  pub plain : EachBetween is_plain bytes start end
  pub ended : EndsAt bytes end
