-- Bytes that leave a state as it is.
use Rattle.std.specs.Prelude.{◌≡◌, ℕ, ◌==◌, ◌<◌, ◌≤◌, Bool, true, false, not, List, slice_index}
use Rattle.html_pieces.specs.Bytes.{is_alphanumeric}
use Rattle.html_pieces.specs.Laws.{ends_text}
use Rattle.html_pieces.specs.declared.tokenizer.State.{State}
use Rattle.html_pieces.specs.declared.tokenizer.State.TheVariants.{Data, TagName, AttributeName, DoubleQuotedValue, SingleQuotedValue, Comment, Raw}

-- The state after the byte is the same, by a test that is quick. It may be so after other bytes too.
abbrev pub is_quiet : State → ℕ → Bool
is_quiet Data b = not (ends_text b)
is_quiet TagName b = is_alphanumeric b
is_quiet AttributeName b = is_alphanumeric b
is_quiet DoubleQuotedValue b = not (b == 34)
is_quiet SingleQuotedValue b = not (b == 39)
is_quiet Comment b = not (b == 45)
is_quiet (Raw element) b = is_alphanumeric b
is_quiet _ b = false

-- The bytes from a place up to another one leave the state as it is.
abbrev pub AreQuiet : State → List ℕ → ℕ → ℕ → Type 0
AreQuiet state bytes from to = (k : ℕ) → from ≤ k → k < to → is_quiet state (slice_index bytes k) ≡ true

-- The bytes from a place up to another one are ASCII letters and digits.
abbrev pub AreAlphanumeric : List ℕ → ℕ → ℕ → Type 0
AreAlphanumeric bytes from to = (k : ℕ) → from ≤ k → k < to → is_alphanumeric (slice_index bytes k) ≡ true

-- The bytes from a place up to another one are none of these.
abbrev pub AreOthers : ℕ → List ℕ → ℕ → ℕ → Type 0
AreOthers stop bytes from to = (k : ℕ) → from ≤ k → k < to → not (slice_index bytes k == stop) ≡ true
