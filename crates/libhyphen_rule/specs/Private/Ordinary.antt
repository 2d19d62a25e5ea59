-- Texts of bytes of most words.
use Rattle.std.specs.Prelude.{ℕ, ◌<◌, List, length, slice_index}
use Rattle.libhyphen_files.specs.Files.{Rules}
use Rattle.libhyphen_files.specs.Ordinary.{IsOrdinary}

-- Each byte of the text is one of most words.
abbrev pub AllOrdinary : Rules → List ℕ → Type 0
AllOrdinary rules text = (byte : ℕ) → byte < length text → IsOrdinary rules (slice_index text byte)

-- Each byte of the text is a character of ASCII.
abbrev pub AllAscii : List ℕ → Type 0
AllAscii text = (byte : ℕ) → byte < length text → slice_index text byte < 128
