-- Statements that are true of all texts.
use Rattle.std.specs.Prelude.{◌≡◌, ℕ, ◌==◌, ◌||◌, Bool, true, false, List, [], ◌∷◌, map, IsUtf8}
use Rattle.std.specs.List.{concat}
use Rattle.markdown_pieces.specs.Bytes.{is_special}
use Rattle.markdown_pieces.specs.Pieces.{Piece, pieces_of}
use Rattle.markdown_pieces.specs.declared.cutting.PieceKind.{PieceKind}
use Rattle.markdown_pieces.specs.declared.cutting.PieceKind.TheVariants.{Other}

-- The bytes of pieces, joined.
abbrev pub joined_pieces : List Piece → List ℕ
joined_pieces pieces = concat (map (λ p. p.bytes) pieces)

-- The bytes of each piece are UTF-8.
abbrev pub AreUtf8 : List Piece → Type 0
AreUtf8 [] = Unit {0}
AreUtf8 (p ∷ ps) = IsUtf8 p.bytes × AreUtf8 ps

-- No byte is special.
abbrev pub IsPlain : List ℕ → Type 0
IsPlain [] = Unit {0}
IsPlain (b ∷ bs) = (is_special b ≡ false) × IsPlain bs

-- A text, the second one, begins as another one does, or with the byte c2, which is the first one of U+00AD. (No piece is
-- empty.)
abbrev pub begins_alike : List ℕ → List ℕ → Bool
begins_alike [] other = true
begins_alike (b ∷ bs) [] = false
begins_alike (b ∷ bs) (o ∷ os) = o == b || o == 0xC2

-- Another text in the place of a text. All but a text stays.
abbrev pub IsOtherText : PieceKind → List ℕ → List ℕ → Type 0
IsOtherText Other bytes other = other ≡ bytes
IsOtherText _ text other = (IsPlain text → IsPlain other) × (begins_alike text other ≡ true)

-- Two pieces of one kind, with the same bytes or, of texts, other ones.
pub record IsAlike (p other : Piece) : Type 0 where
  pub kind : other.kind ≡ p.kind
  pub bytes : IsOtherText p.kind p.bytes other.bytes

-- The same pieces, with other texts.
abbrev pub HaveOtherTexts : List Piece → List Piece → Type 0
HaveOtherTexts [] [] = Unit {0}
HaveOtherTexts (p ∷ ps) (other ∷ others) = IsAlike p other × HaveOtherTexts ps others
HaveOtherTexts _ _ = ⊥

-- Other texts in the place of those of a text are cut alike: into these pieces.
abbrev pub AreCutAlike : Type 0
AreCutAlike = (text : List ℕ) (others : List Piece) → HaveOtherTexts (pieces_of text) others → pieces_of (joined_pieces others) ≡ others
