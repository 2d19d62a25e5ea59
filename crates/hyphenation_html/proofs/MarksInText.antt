-- Each mark stands within a text.
use Rattle.std.proofs.Common.{◌≡◌, ℕ, ◌+◌, Bool, false, List, [], ◌∷◌, ◌++◌, length, refl, ap, arith, length-append, Option}
use Rattle.std.specs.Prelude.{All}
use Rattle.std.proofs.lemmas.List.Elements.{All-nil, All-cons}
use Rattle.html_pieces.specs.declared.bytes.PageForm.{PageForm}
use Rattle.html_pieces.specs.Pieces.{Piece, pieces_of}
use Rattle.html_pieces.specs.Elements.{Element, page_element}
use Rattle.html_pieces.specs.Readings.{Reading, at_start, parent_of_text, reading_after}
use Rattle.html_pieces.specs.Laws.{joined_pieces, AreUtf8}
use Rattle.html_pieces.specs.declared.tokenizer.PieceKind.{PieceKind}
use Rattle.html_pieces.specs.declared.tokenizer.PieceKind.TheVariants.{Text, Reference, StartTag, EmptyTag, EndTag, Other}
use Rattle.hyphenation_text.specs.Laws.{Within}
use Rattle.hyphenation_html.specs.Languages.{Language}
use Rattle.hyphenation_html.specs.Laws.{IsInText}
use Rattle.hyphenation_html.specs.LeftAlone.{left_alone_elements}
use Rattle.hyphenation_text.specs.Places.{shifted}
use Rattle.hyphenation_html.specs.Places.{places_in, piece_places, pieces_places, places_of}
use Rattle.hyphenation_html.specs.Touching.{touched_after, touched_before}
use Rattle.hyphenation_html.specs.Private.Fit.{AllFit}
use Rattle.hyphenation_html.proofs.MarkedPages.{Laws, piece_marked}

-- A fact of each place, by recursion.
abbrev Each : (ℕ → Type 0) → List ℕ → Type 0
Each P [] = Unit {0}
Each P (place ∷ places) = P place × Each P places

in_text_here : (p : Piece) (ps : List Piece) (places : List ℕ) → p.kind ≡ Text → Within (length p.bytes) places → Each (IsInText (p ∷ ps)) places
in_text_here p ps [] k w = tt
in_text_here p ps (q ∷ qs) k w =
    (record { before = []; text = p; after = ps; pieces_are = refl; is_text = k; begins = omega arith; ends = omega (arith, w.0) }, in_text_here p ps qs k w.1)

in_text_later : (p : Piece) (ps : List Piece) (q : ℕ) → IsInText ps q → IsInText (p ∷ ps) (length p.bytes + q)
in_text_later p ps q i =
    let n : length (p.bytes ++ joined_pieces i.before) ≡ length p.bytes + length (joined_pieces i.before) = length-append p.bytes (joined_pieces i.before) in
    record {
      before = p ∷ i.before;
      text = i.text;
      after = i.after;
      pieces_are = ap (λ xs. p ∷ xs) i.pieces_are;
      is_text = i.is_text;
      begins = omega (arith, n, i.begins);
      ends = omega (arith, n, i.ends);
    }

each_later : (p : Piece) (ps : List Piece) (qs : List ℕ) → Each (IsInText ps) qs → Each (IsInText (p ∷ ps)) (shifted (length p.bytes) qs)
each_later p ps [] e = tt
each_later p ps (q ∷ qs) e = (in_text_later p ps q e.0, each_later p ps qs e.1)

each_append : (P : ℕ → Type 0) (xs ys : List ℕ) → Each P xs → Each P ys → Each P (xs ++ ys)
each_append P [] ys e f = f
each_append P (x ∷ xs) ys e f = (e.0, each_append P xs ys e.1 f)

piece_in_text : (languages : List Language) (element : Option Element) (before after : Bool) (p : Piece) (ps : List Piece) (kind : PieceKind) → p.kind ≡ kind
    → Within (length p.bytes) (piece_places languages element before after kind p.bytes) → Each (IsInText (p ∷ ps)) (piece_places languages element before after kind p.bytes)
piece_in_text languages element before after p ps Text k w = in_text_here p ps (places_in languages element before after p.bytes) k w
piece_in_text languages element before after p ps Reference k w = tt
piece_in_text languages element before after p ps StartTag k w = tt
piece_in_text languages element before after p ps EmptyTag k w = tt
piece_in_text languages element before after p ps EndTag k w = tt
piece_in_text languages element before after p ps Other k w = tt

pieces_in_text : (laws : Laws) (languages : List Language) (form : PageForm) (class : List ℕ) (page : Element) (reading : Reading) (before : Bool) (ps : List Piece) → AllFit languages → AreUtf8 ps
    → Each (IsInText ps) (pieces_places languages form class page reading before ps)
pieces_in_text laws languages form class page reading before [] f u = tt
pieces_in_text laws languages form class page reading before (p ∷ ps) f u =
    each_append (IsInText (p ∷ ps)) (piece_places languages (parent_of_text form page reading) before (touched_after ps) p.kind p.bytes) (shifted (length p.bytes) (pieces_places languages form class page (reading_after form (left_alone_elements class) page reading p) (touched_before before p.kind p.bytes) ps))
    (piece_in_text languages (parent_of_text form page reading) before (touched_after ps) p ps p.kind refl (piece_marked laws languages [] (parent_of_text form page reading) before (touched_after ps) p.kind p.bytes f u.0).within)
    (each_later p ps (pieces_places languages form class page (reading_after form (left_alone_elements class) page reading p) (touched_before before p.kind p.bytes) ps) (pieces_in_text laws languages form class page (reading_after form (left_alone_elements class) page reading p) (touched_before before p.kind p.bytes) ps f u.1))

all_of : (P : ℕ → Type 0) (places : List ℕ) → Each P places → All P places
all_of P [] e = All-nil P
all_of P (place ∷ places) e = All-cons P place places e.0 (all_of P places e.1)

pub page_in_text : (laws : Laws) (languages : List Language) (form : PageForm) (class language page : List ℕ) → AllFit languages → AreUtf8 (pieces_of form page) → All (IsInText (pieces_of form page)) (places_of languages form class language page)
page_in_text laws languages form class language page f u =
    all_of (IsInText (pieces_of form page)) (places_of languages form class language page) (pieces_in_text laws languages form class (page_element language) (at_start form (left_alone_elements class) (pieces_of form page)) false (pieces_of form page) f u)
