-- The pieces that the iterators have left.
-- Source of word bounds: UAX #29, Unicode Text Segmentation, as the kit's crate `unicode_segmentation` states it.

use Rattle.std.specs.Prelude.{◌≡◌, ℕ, ◌+◌, ◌<◌, ◌≤◌, true, List, [], ◌∷◌, ◌++◌, length, slice_range, All}
use Rattle.std.specs.Char.{is_ascii_alphabetic}
use Rattle.std.specs.List.{concat, list_all}
use Rattle.std.specs.Str.{IsUtf8, IsCharBoundary}
use Rattle.unicode_segmentation.specs.Segments.{segments_between, with_offsets}
use Rattle.unicode_segmentation.specs.Word.{is_word_break, word_bounds}
use Rattle.word_pieces.specs.declared.pieces.WordPieces.{WordPieces}
use Rattle.word_pieces.specs.declared.pieces.WordPieceIndices.{WordPieceIndices}

-- The pieces that are still to come.
unfoldable pub pieces_left : WordPieces → List (List ℕ)
pieces_left s = segments_between is_word_break s.text.now s.front (length s.text.now)

-- The offset in the text at which the first of them begins.
unfoldable pub pieces_offset : WordPieces → ℕ
pieces_offset s = s.front

-- The pieces that are still to come, each with the offset at which it begins.
abbrev pub piece_indices_left : WordPieceIndices → List (ℕ × List ℕ)
piece_indices_left s = with_offsets (pieces_offset s.pieces) (pieces_left s.pieces)

-- The piece at an offset ends at or before a place.
abbrev pub EndsBy : ℕ → ℕ × List ℕ → Type 0
EndsBy place (at, piece) = at + length piece ≤ place

-- First pieces were passed, and the others stay to come. Each that was passed ends at or before the place.
abbrev pub PassesBefore : ℕ → List (ℕ × List ℕ) → List (ℕ × List ℕ) → Type 0
PassesBefore place old new = (passed : List (ℕ × List ℕ)) × (old ≡ passed ++ new) × All (EndsBy place) passed

-- A piece, with the offset at which it begins, is a slice of the text between two character boundaries.
pub record IsSlice (text : List ℕ) (piece : ℕ × List ℕ) : Type 0 where
  pub start : IsCharBoundary text piece.0
  pub end : IsCharBoundary text (piece.0 + length piece.1)
  pub bytes : piece.1 ≡ slice_range text piece.0 (piece.0 + length piece.1)

-- Each piece is a slice of that kind.
abbrev pub AreSlices : List ℕ → List (ℕ × List ℕ) → Type 0
AreSlices text [] = Unit {0}
AreSlices text (piece ∷ pieces) = IsSlice text piece × AreSlices text pieces

-- The pieces of each text are slices of it.
abbrev pub PiecesAreSlices : Type 0
PiecesAreSlices = (text : List ℕ) → IsUtf8 text → AreSlices text (with_offsets 0 (word_bounds text))

-- The pieces of each text join to it.
abbrev pub PiecesJoin : Type 0
PiecesJoin = (text : List ℕ) → IsUtf8 text → concat (word_bounds text) ≡ text

-- A text of letters of ASCII is one piece.
abbrev pub LettersAreOnePiece : Type 0
LettersAreOnePiece = (text : List ℕ) → 0 < length text → list_all is_ascii_alphabetic text ≡ true → word_bounds text ≡ text ∷ []
