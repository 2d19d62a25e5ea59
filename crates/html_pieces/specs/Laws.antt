-- Statements that are true of all pages.
use Rattle.std.specs.Prelude.{◌≡◌, ℕ, ◌==◌, ◌||◌, Bool, true, false, List, [], ◌∷◌, map, IsUtf8}
use Rattle.std.specs.List.{concat}
use Rattle.html_pieces.specs.declared.bytes.PageForm.{PageForm}
use Rattle.html_pieces.specs.Forms.{begins_with_order_mark, form_of}
use Rattle.html_pieces.specs.Pieces.{Piece, pieces_of}
use Rattle.html_pieces.specs.declared.tokenizer.PieceKind.{PieceKind}
use Rattle.html_pieces.specs.declared.tokenizer.PieceKind.TheVariants.{Text}

-- The bytes of pieces, joined.
abbrev pub joined_pieces : List Piece → List ℕ
joined_pieces pieces = concat (map (λ p. p.bytes) pieces)

-- The bytes of each piece are UTF-8.
abbrev pub AreUtf8 : List Piece → Type 0
AreUtf8 [] = Unit {0}
AreUtf8 (p ∷ ps) = IsUtf8 p.bytes × AreUtf8 ps

-- The byte ends a text: it is '<' or '&'.
abbrev pub ends_text : ℕ → Bool
ends_text b = b == 60 || b == 38

-- No byte ends the text.
abbrev pub IsPlain : List ℕ → Type 0
IsPlain [] = Unit {0}
IsPlain (b ∷ bs) = (ends_text b ≡ false) × IsPlain bs

-- A text, the second one, begins as another one does, or with the byte c2, which is the first one of U+00AD. (No text piece is
-- empty.)
abbrev pub begins_alike : List ℕ → List ℕ → Bool
begins_alike [] other = true
begins_alike (b ∷ bs) [] = false
begins_alike (b ∷ bs) (o ∷ os) = o == b || o == 0xC2

-- Another text in the place of a text. All but a text stays.
abbrev pub IsOtherText : PieceKind → List ℕ → List ℕ → Type 0
IsOtherText Text text other = (IsPlain text → IsPlain other) × (begins_alike text other ≡ true)
IsOtherText _ bytes other = other ≡ bytes

-- Two pieces of one kind, with the same bytes or, of texts, other ones.
pub record IsAlike (p other : Piece) : Type 0 where
  pub kind : other.kind ≡ p.kind
  pub bytes : IsOtherText p.kind p.bytes other.bytes

-- The same pieces, with other texts.
abbrev pub HaveOtherTexts : List Piece → List Piece → Type 0
HaveOtherTexts [] [] = Unit {0}
HaveOtherTexts (p ∷ ps) (other ∷ others) = IsAlike p other × HaveOtherTexts ps others
HaveOtherTexts _ _ = ⊥

-- Other texts in the place of those of a page are cut alike: into these pieces.
abbrev pub AreCutAlike : Type 0
AreCutAlike = (form : PageForm) (page : List ℕ) (others : List Piece) → HaveOtherTexts (pieces_of form page) others
    → pieces_of form (joined_pieces others) ≡ others

-- The first of other pieces begins with U+FEFF where the first piece of a page does, and is then the same.
abbrev pub KeepsOrderMark : List Piece → List Piece → Type 0
KeepsOrderMark (p ∷ ps) (other ∷ others) =
    (begins_with_order_mark other.bytes ≡ begins_with_order_mark p.bytes) × (begins_with_order_mark p.bytes ≡ true → other.bytes ≡ p.bytes)
KeepsOrderMark _ _ = Unit {0}

-- Pieces leave the form of a page: its texts alone are others, and a byte order mark stays.
pub record LeaveTheForm (page : List ℕ) (others : List Piece) : Type 0 where
  pub texts : HaveOtherTexts (pieces_of (form_of page) page) others
  pub mark : KeepsOrderMark (pieces_of (form_of page) page) others

-- Where pieces leave the form of a page, the page that they join to has it too.
abbrev pub FormStays : Type 0
FormStays = (page : List ℕ) (others : List Piece) → LeaveTheForm page others → form_of (joined_pieces others) ≡ form_of page
