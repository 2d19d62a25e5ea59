-- A page that is written piece by piece is the page with marks at its places.
use Rattle.std.proofs.Common.{◌≡◌, ℕ, ◌&&◌, Bool, true, false, List, [], ◌∷◌, ◌++◌, length, refl, ap, ◌∙◌, subst, Option, Some, None, if◌then◌else◌}
use Rattle.std.specs.Option.{option_map_or}
use Rattle.std.specs.Str.{IsUtf8}
use Rattle.html_pieces.specs.declared.bytes.PageForm.{PageForm}
use Rattle.html_pieces.specs.Pieces.{Piece, pieces_of}
use Rattle.html_pieces.specs.Elements.{Element, page_element}
use Rattle.html_pieces.specs.Readings.{Reading, at_start, parent_of_text, reading_after}
use Rattle.html_pieces.specs.Laws.{joined_pieces, AreUtf8}
use Rattle.html_pieces.specs.declared.tokenizer.PieceKind.{PieceKind}
use Rattle.html_pieces.specs.declared.tokenizer.PieceKind.TheVariants.{Text, Reference, StartTag, EmptyTag, EndTag, Other}
use Rattle.hyphenation_text.specs.Laws.{IsMarked, TextsAreMarked, AnyIsMarked, MarkedTextsJoin, MarkedTextsHaveNoneLeft, WhiteSpaceHasNoBreaks}
use Rattle.hyphenation_html.specs.Languages.{Language, best_of, best_from, better, serves}
use Rattle.hyphenation_html.specs.LeftAlone.{left_alone_elements, is_left_alone}
use Rattle.hyphenation_text.specs.Places.{shifted, text_places}
use Rattle.hyphenation_html.specs.Places.{places_in, piece_places, pieces_places, places_of}
use Rattle.hyphenation_html.specs.Touching.{touched_after, touched_before}
use Rattle.hyphenation_text.specs.Dictionaries.{AllAscend}
use Rattle.hyphenation_html.specs.Private.Fit.{AllFit}
use Rattle.hyphenation_text.specs.Texts.{marked_text}
use Rattle.hyphenation_html.specs.Private.Marked.{marked_in, marked_piece, marked_pieces}

-- The laws of texts with marks that a library proves.
pub record Laws : Type 0 where
  pub marked : TextsAreMarked
  pub unmarked : AnyIsMarked
  pub join : MarkedTextsJoin
  pub none_left : MarkedTextsHaveNoneLeft
  pub white : WhiteSpaceHasNoBreaks

-- ---- languages

abbrev pub IfChosen : Option Language → Type 0
IfChosen None = Unit {0}
IfChosen (Some language) = AllAscend language.1

chosen_either : (c : Bool) (language : Language) (best : Option Language) → AllAscend language.1 → IfChosen best → IfChosen (if c then Some language else best)
chosen_either true language best a i = a
chosen_either false language best a i = i

pub chosen : (tag : List ℕ) (best : Option Language) (languages : List Language) → IfChosen best → AllFit languages → IfChosen (best_from tag best languages)
chosen tag best [] i f = i
chosen tag best (language ∷ languages) i f =
    chosen tag (better tag best language) languages (chosen_either (serves language.0 tag && _) language best f.0 i) f.1

by_language : (laws : Laws) (mark : List ℕ) (before after : Bool) (text : List ℕ) (o : Option Language) → IfChosen o → IsUtf8 text
    → IsMarked mark text (option_map_or (λ language. text_places language.1 before after text) o []) (option_map_or (λ language. marked_text language.1 mark before after text) o text)
by_language laws mark before after text None i u = laws.unmarked mark text
by_language laws mark before after text (Some language) i u = laws.marked language.1 mark before after text i u

-- ---- pieces

unless_alone : {mark text pa oa : List ℕ} → Laws → (c : Bool) → IsMarked mark text pa oa → IsMarked mark text (if c then [] else pa) (if c then text else oa)
unless_alone {mark} {text} laws true m = laws.unmarked mark text
unless_alone laws false m = m

in_marked : (laws : Laws) (languages : List Language) (mark : List ℕ) (element : Option Element) (before after : Bool) (text : List ℕ) → AllFit languages → IsUtf8 text
    → IsMarked mark text (places_in languages element before after text) (marked_in languages mark element before after text)
in_marked laws languages mark None before after text f u = laws.unmarked mark text
in_marked laws languages mark (Some element) before after text f u =
    unless_alone laws (is_left_alone element text) (by_language laws mark before after text (best_of element.language languages) (chosen element.language None languages tt f) u)

pub piece_marked : (laws : Laws) (languages : List Language) (mark : List ℕ) (element : Option Element) (before after : Bool) (kind : PieceKind) (text : List ℕ) → AllFit languages → IsUtf8 text
    → IsMarked mark text (piece_places languages element before after kind text) (marked_piece languages mark element before after kind text)
piece_marked laws languages mark element before after Text text f u = in_marked laws languages mark element before after text f u
piece_marked laws languages mark element before after Reference text f u = laws.unmarked mark text
piece_marked laws languages mark element before after StartTag text f u = laws.unmarked mark text
piece_marked laws languages mark element before after EmptyTag text f u = laws.unmarked mark text
piece_marked laws languages mark element before after EndTag text f u = laws.unmarked mark text
piece_marked laws languages mark element before after Other text f u = laws.unmarked mark text

pub pieces_marked : (laws : Laws) (languages : List Language) (mark : List ℕ) (form : PageForm) (class : List ℕ) (page : Element) (reading : Reading) (before : Bool) (ps : List Piece) → AllFit languages → AreUtf8 ps
    → IsMarked mark (joined_pieces ps) (pieces_places languages form class page reading before ps) (marked_pieces languages mark form class page reading before ps)
unfolding marked_pieces
pieces_marked laws languages mark form class page reading before [] f u = laws.unmarked mark []
pieces_marked laws languages mark form class page reading before (p ∷ ps) f u =
    laws.join mark _ _ _ _ _ _ (piece_marked laws languages mark (parent_of_text form page reading) before (touched_after ps) p.kind p.bytes f u.0)
    (pieces_marked laws languages mark form class page (reading_after form (left_alone_elements class) page reading p) (touched_before before p.kind p.bytes) ps f u.1)

-- A page is written with marks at its places, where its pieces join to it and are UTF-8.
pub page_marked : (laws : Laws) (languages : List Language) (form : PageForm) (class language mark page : List ℕ) → AllFit languages → joined_pieces (pieces_of form page) ≡ page → AreUtf8 (pieces_of form page)
    → IsMarked mark page (places_of languages form class language page) (marked_pieces languages mark form class (page_element language) (at_start form (left_alone_elements class) (pieces_of form page)) false (pieces_of form page))
page_marked laws languages form class language mark page f join u =
    subst (λ t. IsMarked mark t (places_of languages form class language page) (marked_pieces languages mark form class (page_element language) (at_start form (left_alone_elements class) (pieces_of form page)) false (pieces_of form page))) join
    (pieces_marked laws languages mark form class (page_element language) (at_start form (left_alone_elements class) (pieces_of form page)) false (pieces_of form page) f u)

-- ---- without dictionaries

pub none_either : (c : Bool) → (if◌then◌else◌ {A = List ℕ} c [] []) ≡ []
none_either true = refl
none_either false = refl

piece_without : (element : Option Element) (before after : Bool) (kind : PieceKind) (text : List ℕ) → piece_places [] element before after kind text ≡ []
piece_without None before after Text text = refl
piece_without (Some element) before after Text text = none_either (is_left_alone element text)
piece_without element before after Reference text = refl
piece_without element before after StartTag text = refl
piece_without element before after EmptyTag text = refl
piece_without element before after EndTag text = refl
piece_without element before after Other text = refl

pieces_without : (form : PageForm) (class : List ℕ) (page : Element) (reading : Reading) (before : Bool) (ps : List Piece) → pieces_places [] form class page reading before ps ≡ []
pieces_without form class page reading before [] = refl
pieces_without form class page reading before (p ∷ ps) =
    ap (λ xs. xs ++ shifted (length p.bytes) (pieces_places [] form class page (reading_after form (left_alone_elements class) page reading p) (touched_before before p.kind p.bytes) ps)) (piece_without (parent_of_text form page reading) before (touched_after ps) p.kind p.bytes)
    ∙ ap (shifted (length p.bytes)) (pieces_without form class page (reading_after form (left_alone_elements class) page reading p) (touched_before before p.kind p.bytes) ps)

pub page_without : (languages : List Language) (form : PageForm) (class language page : List ℕ) → languages ≡ [] → places_of languages form class language page ≡ []
page_without languages form class language page e = ap (λ ls. places_of ls form class language page) e ∙ pieces_without form class (page_element language) (at_start form (left_alone_elements class) (pieces_of form page)) false (pieces_of form page)
