-- The occurrences of keys in a text, each a row.
-- Source of patterns that occur in a word between two dots: F. M. Liang, Word Hy-phen-a-tion by Com-put-er (1983).
use Rattle.std.specs.Prelude.{◌≡◌, ℕ, ◌+◌, ◌*◌, ◌<◌, ◌≤◌, ◌⊎◌, List, length, Some, IsSome, slice_range}
use Rattle.std.specs.List.{All, AllPairs, Contains}
use Rattle.hyphenation_breaks.specs.Dictionary.{Patterns}
use Rattle.hyphenation_breaks.specs.declared.entry.Entry.{Entry}
use Rattle.explanations.specs.declared.pattern_rows.Row.{Row}

-- A row: the place of the text at which it starts, its number of bytes, and entries.
pub record PatternRow (C : Type 0) : Type 0 where
  pub start : ℕ
  pub bytes : ℕ
  pub entries : List (Entry C)

-- A row with borrowed entries, as a row.
abbrev pub row_of : {C : Type 0} → Row C → PatternRow C
row_of row = record { start = row.start; bytes = row.bytes; entries = row.entries.now }

-- The row lies within the text.
abbrev pub LiesWithin : {C : Type 0} → List ℕ → PatternRow C → Type 0
LiesWithin text row = row.start + row.bytes ≤ length text

-- The row shows an occurrence of a key in the text. It has a byte at least, the text there is a key, and its entries are those
-- of the key.
pub record IsOccurrence {C : Type 0} (keys : Patterns C) (text : List ℕ) (row : PatternRow C) : Type 0 where
  pub not_empty : 0 < row.bytes
  pub within : LiesWithin text row
  pub key : keys (slice_range text row.start (row.start + row.bytes)) ≡ Some row.entries

-- One row comes before another: its start is less, or equal and it has fewer bytes.
abbrev pub ComesBefore : {C : Type 0} → PatternRow C → PatternRow C → Type 0
ComesBefore row other = (row.start < other.start) ⊎ ((row.start ≡ other.start) × (row.bytes < other.bytes))

-- The rows are those of all occurrences of keys in the text and of nothing else, in their order. No occurrence has two.
pub record AreAllOccurrences {C : Type 0} (keys : Patterns C) (text : List ℕ) (rows : List (PatternRow C)) : Type 0 where
  pub each : All (IsOccurrence keys text) rows
  pub all : (row : PatternRow C) → IsOccurrence keys text row → Contains rows row
  pub in_order : AllPairs ComesBefore rows

-- No key has more bytes than this.
abbrev pub NoKeyIsLonger : {C : Type 0} → Patterns C → ℕ → Type 0
NoKeyIsLonger keys longest = (key : List ℕ) → IsSome (keys key) → length key ≤ longest

-- The count of look-ups rises, for each of this number of bytes, by at most twice the bytes of the longest key and two more.
abbrev pub LooksUpWithin : {C : Type 0} → Patterns C → ℕ → ℕ → ℕ → Type 0
LooksUpWithin keys bytes old new = (longest : ℕ) → NoKeyIsLonger keys longest → new ≤ old + bytes * (2 * longest + 2)
