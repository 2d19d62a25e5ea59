-- Statements that are true of all pages.
use Rattle.std.specs.Prelude.{◌≡◌, ℕ, ◌+◌, ◌≤◌, List, ◌∷◌, ◌++◌, length}
use Rattle.html_pieces.specs.Laws.{joined_pieces}
use Rattle.html_pieces.specs.Pieces.{Piece}
use Rattle.html_pieces.specs.declared.tokenizer.PieceKind.TheVariants.{Text}

-- A place is within a text piece: no tag, comment, reference or script is parted there.
pub record IsInText (pieces : List Piece) (place : ℕ) : Type 0 where
  pub before : List Piece
  pub text : Piece
  pub after : List Piece
  pub pieces_are : pieces ≡ before ++ text ∷ after
  pub is_text : text.kind ≡ Text
  pub begins : length (joined_pieces before) ≤ place
  pub ends : place ≤ length (joined_pieces before) + length text.bytes
