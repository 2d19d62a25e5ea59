-- How Markdown is cut into pieces: its texts, texts in brackets, and the rest, which is markup or code.
use Rattle.std.specs.Prelude.{ℕ, ◌&&◌, ◌++◌, Bool, true, false, not, List, [], ◌∷◌, if◌then◌else◌}
use Rattle.html_pieces.specs.Bytes.{is_continuation}
use Rattle.markdown_pieces.specs.Bytes.{is_special}
use Rattle.markdown_pieces.specs.States.{first_state, reads, next}
use Rattle.markdown_pieces.specs.declared.cutting.PieceKind.{PieceKind}
use Rattle.markdown_pieces.specs.declared.cutting.PieceKind.TheVariants.{Text, Bracketed, Other}
use Rattle.markdown_pieces.specs.declared.cutting.Piece as declared
use Rattle.markdown_pieces.specs.declared.state.State.{State}

-- The kind of a byte, by the state before it.
unfoldable pub kind_of : State → ℕ → PieceKind
kind_of state b =
    if reads state.mode state.block b && not (is_special b) then (if state.in_brackets then Bracketed else Text) else Other

-- The same, and the state after it, where a byte that is not the first of its character goes with it.
abbrev pub kind_after : State → PieceKind → ℕ → PieceKind
kind_after state kind b = if is_continuation b then kind else kind_of state b

abbrev pub state_after : State → ℕ → State
state_after state b = if is_continuation b then state else next state b

abbrev pub is_same_kind : PieceKind → PieceKind → Bool
is_same_kind Text Text = true
is_same_kind Bracketed Bracketed = true
is_same_kind Other Other = true
is_same_kind _ _ = false

-- A piece of a text.
pub record Piece : Type 0 where
  pub kind : PieceKind
  pub bytes : List ℕ

-- The same of a piece as the code holds it.
abbrev pub as_piece : declared.Piece → Piece
as_piece held = record { kind = held.kind; bytes = held.text.now }

abbrev pub piece : PieceKind → List ℕ → Piece
piece kind bytes = record { kind = kind; bytes = bytes }

-- The pieces from a state on, of which the first one is of a kind and has these bytes so far: bytes of one kind that follow one
-- another are a piece.
abbrev pub pieces_from : State → PieceKind → List ℕ → List ℕ → List Piece
pieces_from state kind front [] = piece kind front ∷ []
pieces_from state kind front (b ∷ bs) =
    if is_same_kind kind (kind_after state kind b)
    then pieces_from (state_after state b) kind (front ++ b ∷ []) bs
    else piece kind front ∷ pieces_from (state_after state b) (kind_after state kind b) (b ∷ []) bs

-- The pieces of a text, in order.
abbrev pub pieces_of : List ℕ → List Piece
pieces_of [] = []
pieces_of (b ∷ bs) = pieces_from (next first_state b) (kind_of first_state b) (b ∷ []) bs
