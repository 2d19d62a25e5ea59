-- A page has its form with its soft hyphens, too.
use Rattle.std.proofs.Common.{◌≡◌, ℕ, Bool, true, false, List, [], ◌∷◌, refl, ap, sym, ◌∙◌, Option, Some, None, if◌then◌else◌}
use Rattle.std.proofs.lemmas.Bool.{or_right}
use Rattle.std.specs.Option.{option_map_or}
use Rattle.std.specs.Str.{IsUtf8}
use Rattle.html_pieces.specs.declared.bytes.PageForm.{PageForm}
use Rattle.html_pieces.specs.declared.tokenizer.PieceKind.{PieceKind}
use Rattle.html_pieces.specs.declared.tokenizer.PieceKind.TheVariants.{Text, Reference, StartTag, EmptyTag, EndTag, Other}
use Rattle.html_pieces.specs.Elements.{Element, page_element}
use Rattle.html_pieces.specs.Forms.{begins_with_order_mark, form_of}
use Rattle.html_pieces.specs.Languages.{language_named, with_named, with_those_of, languages_of}
use Rattle.html_pieces.specs.Laws.{joined_pieces, AreUtf8, HaveOtherTexts, KeepsOrderMark, FormStays}
use Rattle.html_pieces.specs.Pieces.{Piece, pieces_of}
use Rattle.html_pieces.specs.Readings.{Reading, at_start, parent_of_text, reading_after}
use Rattle.hyphenation_html.specs.Languages.{Language, best_of}
use Rattle.hyphenation_text.specs.Laws.{soft_hyphen}
use Rattle.hyphenation_html.specs.LeftAlone.{left_alone_elements, has_text_left_alone}
use Rattle.hyphenation_html.specs.Places.{places_in}
use Rattle.hyphenation_html.specs.Touching.{touched_after, touched_before}
use Rattle.hyphenation_html.specs.Private.Fit.{AllFit}
use Rattle.hyphenation_text.specs.Texts.{marked_text}
use Rattle.hyphenation_html.specs.Private.Marked.{marked_piece, marked_pieces}
use Rattle.hyphenation_html.proofs.Contents.{marks_begin_none}
use Rattle.hyphenation_html.proofs.MarkedPages.{Laws, piece_marked}
use Rattle.hyphenation_html.proofs.SecondPages.{marked_list, marked_list-joins, other_texts}

-- ---- the byte order mark

mark_kept : (languages : List Language) (element : Option Element) (before after : Bool) (kind : PieceKind) (bytes : List ℕ) → begins_with_order_mark bytes ≡ true
    → marked_piece languages soft_hyphen element before after kind bytes ≡ bytes
mark_kept languages None before after Text bytes e = refl
mark_kept languages (Some element) before after Text bytes e =
    ap (λ c. if c then bytes else option_map_or (λ language. marked_text language.1 soft_hyphen before after bytes) (best_of element.language languages) bytes)
    (or_right (has_text_left_alone element) (begins_with_order_mark bytes) e)
mark_kept languages element before after Reference bytes e = refl
mark_kept languages element before after StartTag bytes e = refl
mark_kept languages element before after EmptyTag bytes e = refl
mark_kept languages element before after EndTag bytes e = refl
mark_kept languages element before after Other bytes e = refl

mark_cases : (laws : Laws) (languages : List Language) (element : Option Element) (before after : Bool) (text : List ℕ) (c : Bool) → begins_with_order_mark text ≡ c → AllFit languages → IsUtf8 text
    → begins_with_order_mark (marked_piece languages soft_hyphen element before after Text text) ≡ begins_with_order_mark text
mark_cases laws languages element before after text true e f u = ap begins_with_order_mark (mark_kept languages element before after Text text e)
mark_cases laws languages element before after text false e f u =
    let m = piece_marked laws languages soft_hyphen element before after Text text f u in
    ap begins_with_order_mark m.is ∙ marks_begin_none text (places_in languages element before after text) e ∙ sym e

mark_stays : (laws : Laws) (languages : List Language) (element : Option Element) (before after : Bool) (kind : PieceKind) (bytes : List ℕ) → AllFit languages → IsUtf8 bytes
    → begins_with_order_mark (marked_piece languages soft_hyphen element before after kind bytes) ≡ begins_with_order_mark bytes
mark_stays laws languages element before after Text bytes f u = mark_cases laws languages element before after bytes (begins_with_order_mark bytes) refl f u
mark_stays laws languages element before after Reference bytes f u = refl
mark_stays laws languages element before after StartTag bytes f u = refl
mark_stays laws languages element before after EmptyTag bytes f u = refl
mark_stays laws languages element before after EndTag bytes f u = refl
mark_stays laws languages element before after Other bytes f u = refl

marks_keep : (laws : Laws) (languages : List Language) (form : PageForm) (class : List ℕ) (page : Element) (reading : Reading) (before : Bool) (ps : List Piece) → AllFit languages → AreUtf8 ps
    → KeepsOrderMark ps (marked_list languages form class page reading before ps)
marks_keep laws languages form class page reading before [] f u = tt
marks_keep laws languages form class page reading before (p ∷ ps) f u =
    let element = parent_of_text form page reading in
    (mark_stays laws languages element before (touched_after ps) p.kind p.bytes f u.0, mark_kept languages element before (touched_after ps) p.kind p.bytes)

-- ---- the form

-- A page that was written with soft hyphens has the form of the page.
pub form_kept : (laws : Laws) (leave : FormStays) (languages : List Language) (class language page output : List ℕ) → AllFit languages → AreUtf8 (pieces_of (form_of page) page)
    → output ≡ marked_pieces languages soft_hyphen (form_of page) class (page_element language) (at_start (form_of page) (left_alone_elements class) (pieces_of (form_of page) page)) false (pieces_of (form_of page) page)
    → form_of output ≡ form_of page
form_kept laws leave languages class language page output f u e =
    let form = form_of page in
    let around = page_element language in
    let pieces = pieces_of form page in
    let start = at_start form (left_alone_elements class) pieces in
    let others = marked_list languages form class around start false pieces in
    let joined : output ≡ joined_pieces others = e ∙ sym (marked_list-joins languages form class around start false pieces) in
    ap form_of joined
    ∙ leave page others
    (record { texts = other_texts laws languages form class around start false pieces f u; mark = marks_keep laws languages form class around start false pieces f u })

-- ---- languages

named_stays : (languages : List Language) (form : PageForm) (element : Option Element) (before after : Bool) (kind : PieceKind) (bytes : List ℕ)
    → language_named form (record { kind = kind; bytes = marked_piece languages soft_hyphen element before after kind bytes }) ≡ language_named form (record { kind = kind; bytes = bytes })
named_stays languages form element before after Text bytes = refl
named_stays languages form element before after Reference bytes = refl
named_stays languages form element before after StartTag bytes = refl
named_stays languages form element before after EmptyTag bytes = refl
named_stays languages form element before after EndTag bytes = refl
named_stays languages form element before after Other bytes = refl

those_stay : (languages : List Language) (form : PageForm) (class : List ℕ) (page : Element) (reading : Reading) (before : Bool) (named : List (List ℕ)) (ps : List Piece)
    → with_those_of form named (marked_list languages form class page reading before ps) ≡ with_those_of form named ps
those_stay languages form class page reading before named [] = refl
those_stay languages form class page reading before named (p ∷ ps) =
    let later = reading_after form (left_alone_elements class) page reading p in
    let next = touched_before before p.kind p.bytes in
    ap (λ n. with_those_of form (with_named named n) (marked_list languages form class page later next ps)) (named_stays languages form (parent_of_text form page reading) before (touched_after ps) p.kind p.bytes)
    ∙ those_stay languages form class page later next (with_named named (language_named form p)) ps

-- A page that was written with soft hyphens names the languages that the page names.
pub languages_kept : (laws : Laws) (languages : List Language) (class language page output : List ℕ) → AllFit languages → AreUtf8 (pieces_of (form_of page) page)
    → ((others : List Piece) → HaveOtherTexts (pieces_of (form_of page) page) others → pieces_of (form_of page) (joined_pieces others) ≡ others) → form_of output ≡ form_of page
    → output ≡ marked_pieces languages soft_hyphen (form_of page) class (page_element language) (at_start (form_of page) (left_alone_elements class) (pieces_of (form_of page) page)) false (pieces_of (form_of page) page)
    → languages_of output ≡ languages_of page
languages_kept laws languages class language page output f u cut same e =
    let form = form_of page in
    let around = page_element language in
    let pieces = pieces_of form page in
    let start = at_start form (left_alone_elements class) pieces in
    let others = marked_list languages form class around start false pieces in
    let joined : output ≡ joined_pieces others = e ∙ sym (marked_list-joins languages form class around start false pieces) in
    ap (λ x. with_those_of x [] (pieces_of x output)) same
    ∙ ap (λ bytes. with_those_of form [] (pieces_of form bytes)) joined
    ∙ ap (with_those_of form []) (cut others (other_texts laws languages form class around start false pieces f u))
    ∙ those_stay languages form class around start false [] pieces
