-- Bytes of most words: they end no text, are no digits, and no text without breaks begins with one of them.
use Rattle.std.specs.Prelude.{◌≡◌, ◌≢◌, ℕ, ◌<◌, ◌==◌, Bool, true, false, List, [], ◌∷◌, length, slice_index_or}
use Rattle.std.specs.Char.{is_ascii_digit}
use Rattle.std.specs.List.{list_any}
use Rattle.libhyphen_files.specs.Files.{Rules}

-- A text begins with a byte. One without bytes is everywhere, so it counts as one that does.
abbrev pub may_begin_with : ℕ → List ℕ → Bool
may_begin_with byte [] = true
may_begin_with byte (first ∷ rest) = first == byte

-- A byte of most words, by the texts without breaks.
pub record IsOrdinaryIn (texts : List (List ℕ)) (byte : ℕ) : Type 0 where
  pub no_nul : byte ≢ 0
  pub no_digit : is_ascii_digit byte ≡ false
  pub begins_no_text : list_any (may_begin_with byte) texts ≡ false

-- A byte of most words: no byte 0, no digit, and the first byte of no text without breaks.
abbrev pub IsOrdinary : Rules → ℕ → Type 0
IsOrdinary rules byte = IsOrdinaryIn rules.first_level.no_hyphen byte

-- Only bytes of most words are marked.
pub record AreOrdinary (texts : List (List ℕ)) (marks : List Bool) : Type 0 where
  pub bytes : length marks ≡ 256
  pub each : (byte : ℕ) → byte < 256 → slice_index_or marks byte false ≡ true → IsOrdinaryIn texts byte
