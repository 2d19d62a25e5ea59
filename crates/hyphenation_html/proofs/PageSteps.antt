-- One piece more of a page that is written.
use Rattle.std.proofs.Common.{◌≡◌, ℕ, ◌+◌, ◌<◌, ◌&&◌, Bool, List, [], ◌∷◌, ◌++◌, map, length, drop, get_or, slice_get, Option, Some, refl, ap, sym, ◌∙◌, append_assoc, append-nil, add-one, drop-cons, suc, ◌≤◌}
use Rattle.std.proofs.lemmas.List.{drop_all}
use Rattle.std.proofs.lemmas.Option.{get_or_from_slice_get}
use Rattle.html_pieces.specs.declared.bytes.PageForm.{PageForm}
use Rattle.html_pieces.specs.Pieces.{Piece, as_piece}
use Rattle.html_pieces.specs.Elements.{Element}
use Rattle.html_pieces.specs.Readings.{Reading, parent_of_text, reading_after}
use Rattle.hyphenation_html.specs.Languages.{Language}
use Rattle.hyphenation_html.specs.LeftAlone.{left_alone_elements}
use Rattle.hyphenation_html.specs.Touching.{touched_after, touched_before}
use Rattle.hyphenation_html.specs.Private.Marked.{is_text, marked_piece, marked_pieces}
use Rattle.html_pieces.specs.declared.tokenizer.PieceKind.{PieceKind}
use Rattle.html_pieces.specs.declared.tokenizer.PieceKind.TheVariants.{Text, Reference, StartTag, EmptyTag, EndTag, Other}
use Rattle.html_pieces.specs.declared.tokenizer.Piece as declared

pub next_piece : (items : List declared.Piece) (i : ℕ) (piece : declared.Piece) → i < length items → piece ≡ get_or items i piece → drop i items ≡ piece ∷ drop (i + 1) items
next_piece items i piece lt e = rw (add-one, drop-cons items i piece) (ap (λ p. p ∷ drop (suc i) items) (sym e))

marked_first : (languages : List Language) (mark : List ℕ) (form : PageForm) (class : List ℕ) (page : Element) (reading : Reading) (before : Bool) (p : Piece) (ps : List Piece)
    → marked_pieces languages mark form class page reading before (p ∷ ps)
    ≡ marked_piece languages mark (parent_of_text form page reading) before (touched_after ps) p.kind p.bytes ++ marked_pieces languages mark form class page (reading_after form (left_alone_elements class) page reading p) (touched_before before p.kind p.bytes) ps
unfolding marked_pieces
marked_first languages mark form class page reading before p ps = refl

pub marked_none : (languages : List Language) (mark : List ℕ) (form : PageForm) (class : List ℕ) (page : Element) (reading : Reading) (before : Bool) → marked_pieces languages mark form class page reading before [] ≡ []
unfolding marked_pieces
marked_none languages mark form class page reading before = refl

text_alone : (languages : List Language) (mark : List ℕ) (element : Option Element) (before after : Bool) (kind : PieceKind) (text : List ℕ)
    → marked_piece languages mark element before (is_text kind && after) kind text ≡ marked_piece languages mark element before after kind text
text_alone languages mark element before after Text text = refl
text_alone languages mark element before after Reference text = refl
text_alone languages mark element before after StartTag text = refl
text_alone languages mark element before after EmptyTag text = refl
text_alone languages mark element before after EndTag text = refl
text_alone languages mark element before after Other text = refl

pub piece_written : (languages : List Language) (mark : List ℕ) (form : PageForm) (class : List ℕ) (page : Element) (element : Option Element) (reading reading' : Reading) (before before' after : Bool) (output output' whole : List ℕ) (items : List declared.Piece) (i : ℕ) (piece : declared.Piece)
    → output ++ marked_pieces languages mark form class page reading before (map as_piece (drop i items)) ≡ whole → i < length items → piece ≡ get_or items i piece
    → after ≡ (is_text piece.kind && touched_after (map as_piece (drop (i + 1) items))) → element ≡ parent_of_text form page reading
    → output' ≡ output ++ marked_piece languages mark element before after piece.kind piece.text.now
    → reading' ≡ reading_after form (left_alone_elements class) page reading (as_piece piece) → before' ≡ touched_before before piece.kind piece.text.now
    → output' ++ marked_pieces languages mark form class page reading' before' (map as_piece (drop (i + 1) items)) ≡ whole
piece_written languages mark form class page element reading reading' before before' after output output' whole items i piece told lt is a e o es b =
    let rest = map as_piece (drop (i + 1) items) in
    let own = marked_piece languages mark (parent_of_text form page reading) before (touched_after rest) piece.kind piece.text.now in
    let tail = marked_pieces languages mark form class page (reading_after form (left_alone_elements class) page reading (as_piece piece)) (touched_before before piece.kind piece.text.now) rest in
    ap (λ xs. xs ++ marked_pieces languages mark form class page reading' before' rest) (o ∙ ap (λ x. output ++ marked_piece languages mark x before after piece.kind piece.text.now) e ∙ ap (λ x. output ++ marked_piece languages mark (parent_of_text form page reading) before x piece.kind piece.text.now) a ∙ ap (λ x. output ++ x) (text_alone languages mark (parent_of_text form page reading) before (touched_after rest) piece.kind piece.text.now))
    ∙ ap (λ x. (output ++ own) ++ marked_pieces languages mark form class page x before' rest) es ∙ ap (λ x. (output ++ own) ++ marked_pieces languages mark form class page (reading_after form (left_alone_elements class) page reading (as_piece piece)) x rest) b
    ∙ append_assoc output own tail ∙ ap (λ xs. output ++ xs) (sym (marked_first languages mark form class page reading before (as_piece piece) rest))
    ∙ ap (λ xs. output ++ marked_pieces languages mark form class page reading before (map as_piece xs)) (sym (next_piece items i piece lt is)) ∙ told

pub all_written : (languages : List Language) (mark : List ℕ) (form : PageForm) (class : List ℕ) (page : Element) (reading : Reading) (before : Bool) (items : List declared.Piece) (i : ℕ) (output whole : List ℕ)
    → output ++ marked_pieces languages mark form class page reading before (map as_piece (drop i items)) ≡ whole → length items ≤ i → output ≡ whole
all_written languages mark form class page reading before items i output whole told le =
    sym (append-nil output) ∙ ap (λ xs. output ++ xs) (sym (marked_none languages mark form class page reading before))
    ∙ ap (λ ps. output ++ marked_pieces languages mark form class page reading before (map as_piece ps)) (sym (drop_all i items le)) ∙ told

pub found_at : (items : List declared.Piece) (i : ℕ) (piece : declared.Piece) → slice_get items i ≡ Some piece → piece ≡ get_or items i piece
found_at items i piece e = sym (get_or_from_slice_get items i piece piece e)
