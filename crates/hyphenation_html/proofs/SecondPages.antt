-- A page that has its marks has no places left, where it is cut as it was without them.
use Rattle.std.proofs.Common.{◌≡◌, ℕ, ◌==◌, ◌||◌, ◌&&◌, Bool, true, false, not, nat_lt, List, [], ◌∷◌, ◌++◌, length, take, drop, suc, zero, refl, ap, sym, ◌∙◌, subst, Option, Some, None, if◌then◌else◌}
use Rattle.std.proofs.lemmas.Bool.{eq-eqb, or_left, or_right}
use Rattle.std.specs.Option.{option_map_or}
use Rattle.std.specs.Str.{IsUtf8}
use Rattle.html_pieces.specs.declared.bytes.PageForm.{PageForm}
use Rattle.html_pieces.specs.Pieces.{Piece, pieces_of}
use Rattle.html_pieces.specs.Bytes.{is_xml}
use Rattle.html_pieces.specs.declared.groups.ElementGroup.TheVariants.{Ordinary}
use Rattle.html_pieces.specs.Elements.{Element, Selection, page_element, innermost, depth_limit, is_of_table}
use Rattle.html_pieces.specs.Readings.{Reading, started, at_start, parent_of_text, reading_after, has_text, body_unless, is_hidden, is_content_here, gives_to_root, is_read_text, has_late_root, may_be_loose, loosened}
use Rattle.html_pieces.specs.Laws.{joined_pieces, AreUtf8, IsPlain, begins_alike, IsOtherText, HaveOtherTexts}
use Rattle.html_pieces.specs.declared.tokenizer.PieceKind.{PieceKind}
use Rattle.html_pieces.specs.declared.tokenizer.PieceKind.TheVariants.{Text, Reference, StartTag, EmptyTag, EndTag, Other}
use Rattle.hyphenation_segments.specs.Laws.{with_marks}
use Rattle.hyphenation_html.specs.Languages.{Language, best_of}
use Rattle.hyphenation_text.specs.Laws.{Implies, soft_hyphen}
use Rattle.hyphenation_html.specs.LeftAlone.{left_alone_elements, is_left_alone}
use Rattle.hyphenation_text.specs.Places.{shifted, text_places}
use Rattle.hyphenation_html.specs.Places.{places_in, piece_places, pieces_places, places_of}
use Rattle.hyphenation_html.specs.Touching.{goes_on_over, begins_touching, ends_touching, touched_after, touched_before}
use Rattle.hyphenation_html.specs.Private.Fit.{AllFit}
use Rattle.hyphenation_text.specs.Texts.{marked_text}
use Rattle.hyphenation_html.specs.Private.Marked.{marked_in, marked_piece, marked_pieces}
use Rattle.hyphenation_html.proofs.MarkedPages.{IfChosen, Laws, chosen, none_either, piece_marked}
use Rattle.hyphenation_html.proofs.Contents.{same_text}
use Rattle.hyphenation_html.proofs.WordEdges.{still_begins, still_ends}

-- The pieces of a page, each with its marks.
abbrev pub marked_list : List Language → PageForm → List ℕ → Element → Reading → Bool → List Piece → List Piece
marked_list languages form class page reading before [] = []
marked_list languages form class page reading before (p ∷ ps) =
    record { kind = p.kind; bytes = marked_piece languages soft_hyphen (parent_of_text form page reading) before (touched_after ps) p.kind p.bytes }
    ∷ marked_list languages form class page (reading_after form (left_alone_elements class) page reading p) (touched_before before p.kind p.bytes) ps

pub marked_list-joins : (languages : List Language) (form : PageForm) (class : List ℕ) (page : Element) (reading : Reading) (before : Bool) (ps : List Piece)
    → joined_pieces (marked_list languages form class page reading before ps) ≡ marked_pieces languages soft_hyphen form class page reading before ps
unfolding marked_pieces
marked_list-joins languages form class page reading before [] = refl
marked_list-joins languages form class page reading before (p ∷ ps) =
    ap (λ xs. marked_piece languages soft_hyphen (parent_of_text form page reading) before (touched_after ps) p.kind p.bytes ++ xs)
    (marked_list-joins languages form class page (reading_after form (left_alone_elements class) page reading p) (touched_before before p.kind p.bytes) ps)

-- ---- a piece

none_by_language : (laws : Laws) (before after before' after' : Bool) (text : List ℕ) (o : Option Language) → IfChosen o → Implies before before' → Implies after after' → IsUtf8 text
    → option_map_or (λ language. text_places language.1 before' after' (option_map_or (λ l. marked_text l.1 soft_hyphen before after text) o text)) o [] ≡ []
none_by_language laws before after before' after' text None f i j u = refl
none_by_language laws before after before' after' text (Some language) f i j u = laws.none_left language.1 before after before' after' text f u i j

none_in_cases : (element : Element) (c : Bool) (o : Option Language) (before after before' after' : Bool) (text : List ℕ) → is_left_alone element text ≡ c
    → option_map_or (λ language. text_places language.1 before' after' (option_map_or (λ l. marked_text l.1 soft_hyphen before after text) o text)) o [] ≡ []
    → (if is_left_alone element (if c then text else option_map_or (λ l. marked_text l.1 soft_hyphen before after text) o text) then []
    else option_map_or (λ language. text_places language.1 before' after' (if c then text else option_map_or (λ l. marked_text l.1 soft_hyphen before after text) o text)) o []) ≡ []
none_in_cases element true o before after before' after' text alone e =
    ap (λ c. if c then [] else option_map_or (λ language. text_places language.1 before' after' text) o []) alone
none_in_cases element false o before after before' after' text alone e =
    let own = option_map_or (λ l. marked_text l.1 soft_hyphen before after text) o text in
    ap (λ places. if is_left_alone element own then [] else places) e ∙ none_either (is_left_alone element own)

none_in : (laws : Laws) (languages : List Language) (element : Option Element) (before after before' after' : Bool) (text : List ℕ) → AllFit languages → Implies before before' → Implies after after' → IsUtf8 text
    → places_in languages element before' after' (marked_in languages soft_hyphen element before after text) ≡ []
none_in laws languages None before after before' after' text f i j u = refl
none_in laws languages (Some element) before after before' after' text f i j u =
    none_in_cases element (is_left_alone element text) (best_of element.language languages) before after before' after' text refl
    (none_by_language laws before after before' after' text (best_of element.language languages) (chosen element.language None languages tt f) i j u)

piece_done : (laws : Laws) (languages : List Language) (element : Option Element) (before after before' after' : Bool) (kind : PieceKind) (bytes : List ℕ) → AllFit languages → Implies before before' → Implies after after' → IsUtf8 bytes
    → piece_places languages element before' after' kind (marked_piece languages soft_hyphen element before after kind bytes) ≡ []
piece_done laws languages element before after before' after' Text bytes f i j u = none_in laws languages element before after before' after' bytes f i j u
piece_done laws languages element before after before' after' Reference bytes f i j u = refl
piece_done laws languages element before after before' after' StartTag bytes f i j u = refl
piece_done laws languages element before after before' after' EmptyTag bytes f i j u = refl
piece_done laws languages element before after before' after' EndTag bytes f i j u = refl
piece_done laws languages element before after before' after' Other bytes f i j u = refl

-- ---- what touches a piece

same_over : (languages : List Language) (element : Option Element) (before after : Bool) (kind : PieceKind) (bytes : List ℕ)
    → goes_on_over kind (marked_piece languages soft_hyphen element before after kind bytes) ≡ goes_on_over kind bytes
unfolding goes_on_over
same_over languages element before after Text bytes = refl
same_over languages element before after Reference bytes = refl
same_over languages element before after StartTag bytes = refl
same_over languages element before after EmptyTag bytes = refl
same_over languages element before after EndTag bytes = refl
same_over languages element before after Other bytes = refl

still_begins_touching : (laws : Laws) (languages : List Language) (element : Option Element) (before after : Bool) (kind : PieceKind) (bytes : List ℕ) → AllFit languages → IsUtf8 bytes
    → Implies (begins_touching kind bytes) (begins_touching kind (marked_piece languages soft_hyphen element before after kind bytes))
still_begins_touching laws languages element before after Text bytes f u = λ e.
    let m = piece_marked laws languages soft_hyphen element before after Text bytes f u in
    ap (begins_touching Text) m.is ∙ still_begins bytes (places_in languages element before after bytes) e
still_begins_touching laws languages element before after Reference bytes f u = λ e. e
still_begins_touching laws languages element before after StartTag bytes f u = λ e. e
still_begins_touching laws languages element before after EmptyTag bytes f u = λ e. e
still_begins_touching laws languages element before after EndTag bytes f u = λ e. e
still_begins_touching laws languages element before after Other bytes f u = λ e. e

still_ends_touching : (laws : Laws) (languages : List Language) (element : Option Element) (before after : Bool) (kind : PieceKind) (bytes : List ℕ) → AllFit languages → IsUtf8 bytes
    → Implies (ends_touching kind bytes) (ends_touching kind (marked_piece languages soft_hyphen element before after kind bytes))
still_ends_touching laws languages element before after Text bytes f u = λ e.
    let m = piece_marked laws languages soft_hyphen element before after Text bytes f u in
    ap (ends_touching Text) m.is ∙ still_ends bytes (places_in languages element before after bytes) e
still_ends_touching laws languages element before after Reference bytes f u = λ e. e
still_ends_touching laws languages element before after StartTag bytes f u = λ e. e
still_ends_touching laws languages element before after EmptyTag bytes f u = λ e. e
still_ends_touching laws languages element before after EndTag bytes f u = λ e. e
still_ends_touching laws languages element before after Other bytes f u = λ e. e

either_implies : (c : Bool) (a a' b b' : Bool) → Implies a a' → Implies b b' → Implies (if c then a else b) (if c then a' else b')
either_implies true a a' b b' i j = i
either_implies false a a' b b' i j = j

still_after : (laws : Laws) (languages : List Language) (form : PageForm) (class : List ℕ) (page : Element) (reading : Reading) (before : Bool) (ps : List Piece) → AllFit languages → AreUtf8 ps
    → Implies (touched_after ps) (touched_after (marked_list languages form class page reading before ps))
still_after laws languages form class page reading before [] f u = λ e. e
still_after laws languages form class page reading before (p ∷ ps) f u =
    let element = parent_of_text form page reading in
    let bytes = marked_piece languages soft_hyphen element before (touched_after ps) p.kind p.bytes in
    let rest = marked_list languages form class page (reading_after form (left_alone_elements class) page reading p) (touched_before before p.kind p.bytes) ps in
    let here = either_implies (goes_on_over p.kind p.bytes) (touched_after ps) (touched_after rest) (begins_touching p.kind p.bytes) (begins_touching p.kind bytes)
    (still_after laws languages form class page (reading_after form (left_alone_elements class) page reading p) (touched_before before p.kind p.bytes) ps f u.1)
    (still_begins_touching laws languages element before (touched_after ps) p.kind p.bytes f u.0) in
    λ e. ap (λ c. if c then touched_after rest else begins_touching p.kind bytes) (same_over languages element before (touched_after ps) p.kind p.bytes) ∙ here e

still_before : (laws : Laws) (languages : List Language) (element : Option Element) (before before' after : Bool) (kind : PieceKind) (bytes : List ℕ) → AllFit languages → IsUtf8 bytes → Implies before before'
    → Implies (touched_before before kind bytes) (touched_before before' kind (marked_piece languages soft_hyphen element before after kind bytes))
still_before laws languages element before before' after kind bytes f u i =
    let marked = marked_piece languages soft_hyphen element before after kind bytes in
    let here = either_implies (goes_on_over kind bytes) before before' (ends_touching kind bytes) (ends_touching kind marked) i (still_ends_touching laws languages element before after kind bytes f u) in
    λ e. ap (λ c. if c then before' else ends_touching kind marked) (same_over languages element before after kind bytes) ∙ here e

-- ---- pieces

-- a loose reading after a text, by whether it has more than white space
abbrev loosely_after_content : Element → Reading → Bool → Reading
loosely_after_content page reading c = record {
  elements = if (innermost page reading.elements).is_apart || is_of_table Ordinary || false then reading.elements else reading.elements;
  phase = body_unless (is_hidden (innermost page reading.elements) || not c) reading.phase;
  is_standard = reading.is_standard;
  is_loose = true;
  is_certain = nat_lt (length reading.elements) depth_limit && true && (not c || is_content_here (innermost page reading.elements));
}

-- a text is read alike by all parsers, by whether it has more than white space
abbrev content_alike : PageForm → Element → Reading → Bool → Bool
content_alike form page reading c =
    nat_lt (length reading.elements) depth_limit && true && (if is_xml form then true else not c || is_content_here (innermost page reading.elements))

-- the reading after a text, by whether it has more than white space
abbrev after_content : PageForm → Element → Reading → Bool → Reading
after_content form page reading c =
    if reading.is_certain
    then (if reading.is_loose then loosely_after_content page reading c
    else if content_alike form page reading c || not (may_be_loose form page reading)
    then record {
      elements = reading.elements;
      phase = body_unless (is_hidden (innermost page reading.elements) || not c) reading.phase;
      is_standard = reading.is_standard;
      is_loose = false;
      is_certain = content_alike form page reading c;
    }
    else loosely_after_content page (loosened reading) c)
    else reading

same_reading : (laws : Laws) (languages : List Language) (form : PageForm) (class : List ℕ) (page : Element) (reading : Reading) (before after : Bool) (kind : PieceKind) (bytes : List ℕ) → AllFit languages → IsUtf8 bytes
    → reading_after form (left_alone_elements class) page reading (record { kind = kind; bytes = marked_piece languages soft_hyphen (parent_of_text form page reading) before after kind bytes }) ≡ reading_after form (left_alone_elements class) page reading (record { kind = kind; bytes = bytes })
same_reading laws languages form class page reading before after Text bytes f u =
    let element = parent_of_text form page reading in
    let m = piece_marked laws languages soft_hyphen element before after Text bytes f u in
    ap (after_content form page reading) (ap has_text m.is ∙ same_text laws.white languages element before after bytes)
same_reading laws languages form class page reading before after Reference bytes f u = refl
same_reading laws languages form class page reading before after StartTag bytes f u = refl
same_reading laws languages form class page reading before after EmptyTag bytes f u = refl
same_reading laws languages form class page reading before after EndTag bytes f u = refl
same_reading laws languages form class page reading before after Other bytes f u = refl

root_as_well : (form : PageForm) (selection : Selection) (languages : List Language) (element : Option Element) (before after : Bool) (kind : PieceKind) (bytes : List ℕ)
    → gives_to_root form selection kind (marked_piece languages soft_hyphen element before after kind bytes) ≡ gives_to_root form selection kind bytes
root_as_well form selection languages element before after Text bytes = refl
root_as_well form selection languages element before after Reference bytes = refl
root_as_well form selection languages element before after StartTag bytes = refl
root_as_well form selection languages element before after EmptyTag bytes = refl
root_as_well form selection languages element before after EndTag bytes = refl
root_as_well form selection languages element before after Other bytes = refl

read_as_well : (laws : Laws) (languages : List Language) (element : Option Element) (before after : Bool) (kind : PieceKind) (bytes : List ℕ) → AllFit languages → IsUtf8 bytes
    → is_read_text kind (marked_piece languages soft_hyphen element before after kind bytes) ≡ is_read_text kind bytes
read_as_well laws languages element before after Text bytes f u =
    ap has_text (piece_marked laws languages soft_hyphen element before after Text bytes f u).is ∙ same_text laws.white languages element before after bytes
read_as_well laws languages element before after Reference bytes f u = refl
read_as_well laws languages element before after StartTag bytes f u = refl
read_as_well laws languages element before after EmptyTag bytes f u = refl
read_as_well laws languages element before after EndTag bytes f u = refl
read_as_well laws languages element before after Other bytes f u = refl

late_as_well : (laws : Laws) (languages : List Language) (form : PageForm) (class : List ℕ) (page : Element) (reading : Reading) (before seen : Bool) (ps : List Piece) → AllFit languages → AreUtf8 ps
    → has_late_root form (left_alone_elements class) seen (marked_list languages form class page reading before ps) ≡ has_late_root form (left_alone_elements class) seen ps
late_as_well laws languages form class page reading before seen [] f u = refl
late_as_well laws languages form class page reading before seen (p ∷ ps) f u =
    let selection = left_alone_elements class in
    let element = parent_of_text form page reading in
    let bytes = marked_piece languages soft_hyphen element before (touched_after ps) p.kind p.bytes in
    let rest = marked_list languages form class page (reading_after form (left_alone_elements class) page reading p) (touched_before before p.kind p.bytes) ps in
    ap (λ c. seen && c || has_late_root form selection (seen || is_read_text p.kind bytes) rest) (root_as_well form selection languages element before (touched_after ps) p.kind p.bytes)
    ∙ ap (λ c. seen && gives_to_root form selection p.kind p.bytes || has_late_root form selection (seen || c) rest) (read_as_well laws languages element before (touched_after ps) p.kind p.bytes f u.0)
    ∙ ap (λ c. seen && gives_to_root form selection p.kind p.bytes || c) (late_as_well laws languages form class page (reading_after form (left_alone_elements class) page reading p) (touched_before before p.kind p.bytes) (seen || is_read_text p.kind p.bytes) ps f u.1)

pieces_done : (laws : Laws) (languages : List Language) (form : PageForm) (class : List ℕ) (page : Element) (reading : Reading) (before before' : Bool) (ps : List Piece) → AllFit languages → AreUtf8 ps → Implies before before'
    → pieces_places languages form class page reading before' (marked_list languages form class page reading before ps) ≡ []
pieces_done laws languages form class page reading before before' [] f u i = refl
pieces_done laws languages form class page reading before before' (p ∷ ps) f u i =
    let element = parent_of_text form page reading in
    let bytes = marked_piece languages soft_hyphen element before (touched_after ps) p.kind p.bytes in
    let later = reading_after form (left_alone_elements class) page reading p in
    let next = touched_before before p.kind p.bytes in
    let rest = marked_list languages form class page later next ps in
    ap (λ xs. xs ++ shifted (length bytes) (pieces_places languages form class page (reading_after form (left_alone_elements class) page reading (record { kind = p.kind; bytes = bytes })) (touched_before before' p.kind bytes) rest))
    (piece_done laws languages element before (touched_after ps) before' (touched_after rest) p.kind p.bytes f i (still_after laws languages form class page later next ps f u.1) u.0)
    ∙ ap (λ es. shifted (length bytes) (pieces_places languages form class page es (touched_before before' p.kind bytes) rest)) (same_reading laws languages form class page reading before (touched_after ps) p.kind p.bytes f u.0)
    ∙ ap (shifted (length bytes)) (pieces_done laws languages form class page later next (touched_before before' p.kind bytes) ps f u.1
    (still_before laws languages element before before' (touched_after ps) p.kind p.bytes f u.0 i))

-- ---- the page is cut as it was

plain-append : (xs ys : List ℕ) → IsPlain xs → IsPlain ys → IsPlain (xs ++ ys)
plain-append [] ys v w = w
plain-append (x ∷ xs) ys v w = (v.0, plain-append xs ys v.1 w)

plain-take : (n : ℕ) (xs : List ℕ) → IsPlain xs → IsPlain (take n xs)
plain-take zero xs w = tt
plain-take (suc n) [] w = tt
plain-take (suc n) (x ∷ xs) w = (w.0, plain-take n xs w.1)

plain-drop : (n : ℕ) (xs : List ℕ) → IsPlain xs → IsPlain (drop n xs)
plain-drop zero xs w = w
plain-drop (suc n) [] w = tt
plain-drop (suc n) (x ∷ xs) w = plain-drop n xs w.1

plain-marks : (text places : List ℕ) → IsPlain text → IsPlain (with_marks soft_hyphen text places)
plain-marks text [] w = w
plain-marks text (p ∷ ps) w =
    plain-append (take p text ++ soft_hyphen) (drop p (with_marks soft_hyphen text ps))
    (plain-append (take p text) soft_hyphen (plain-take p text w) (refl, (refl, tt)))
    (plain-drop p (with_marks soft_hyphen text ps) (plain-marks text ps w))

marks_begin_alike : (text places : List ℕ) → begins_alike text (with_marks soft_hyphen text places) ≡ true
marks_begin_alike [] places = refl
marks_begin_alike (b ∷ bs) [] = or_left (b == b) (b == 0xC2) (eq-eqb b b refl)
marks_begin_alike (b ∷ bs) (zero ∷ ps) = or_right (0xC2 == b) (0xC2 == 0xC2) refl
marks_begin_alike (b ∷ bs) (suc p ∷ ps) = or_left (b == b) (b == 0xC2) (eq-eqb b b refl)

other_text : (laws : Laws) (languages : List Language) (element : Option Element) (before after : Bool) (kind : PieceKind) (bytes : List ℕ) → AllFit languages → IsUtf8 bytes
    → IsOtherText kind bytes (marked_piece languages soft_hyphen element before after kind bytes)
other_text laws languages element before after Text bytes f u =
    let m = piece_marked laws languages soft_hyphen element before after Text bytes f u in
    let places = places_in languages element before after bytes in
    (λ plain. subst IsPlain (sym m.is) (plain-marks bytes places plain), ap (begins_alike bytes) m.is ∙ marks_begin_alike bytes places)
other_text laws languages element before after Reference bytes f u = refl
other_text laws languages element before after StartTag bytes f u = refl
other_text laws languages element before after EmptyTag bytes f u = refl
other_text laws languages element before after EndTag bytes f u = refl
other_text laws languages element before after Other bytes f u = refl

pub other_texts : (laws : Laws) (languages : List Language) (form : PageForm) (class : List ℕ) (page : Element) (reading : Reading) (before : Bool) (ps : List Piece) → AllFit languages → AreUtf8 ps
    → HaveOtherTexts ps (marked_list languages form class page reading before ps)
other_texts laws languages form class page reading before [] f u = tt
other_texts laws languages form class page reading before (p ∷ ps) f u = (
  record { kind = refl; bytes = other_text laws languages (parent_of_text form page reading) before (touched_after ps) p.kind p.bytes f u.0 },
  other_texts laws languages form class page (reading_after form (left_alone_elements class) page reading p) (touched_before before p.kind p.bytes) ps f u.1,
)

-- A page that was written with soft hyphens has no places left.
pub page_done : (laws : Laws) (languages : List Language) (form : PageForm) (class language page output : List ℕ) → AllFit languages → AreUtf8 (pieces_of form page)
    → ((others : List Piece) → HaveOtherTexts (pieces_of form page) others → pieces_of form (joined_pieces others) ≡ others)
    → output ≡ marked_pieces languages soft_hyphen form class (page_element language) (at_start form (left_alone_elements class) (pieces_of form page)) false (pieces_of form page)
    → places_of languages form class language output ≡ []
page_done laws languages form class language page output f u cut e =
    let around = page_element language in
    let pieces = pieces_of form page in
    let start = at_start form (left_alone_elements class) pieces in
    let others = marked_list languages form class around start false pieces in
    let joined : output ≡ joined_pieces others = e ∙ sym (marked_list-joins languages form class around start false pieces) in
    ap (places_of languages form class language) joined
    ∙ ap (λ ps. pieces_places languages form class around (at_start form (left_alone_elements class) ps) false ps) (cut others (other_texts laws languages form class around start false pieces f u))
    ∙ ap (λ c. pieces_places languages form class around (started (is_xml form || not c)) false others) (late_as_well laws languages form class around start false false pieces f u)
    ∙ pieces_done laws languages form class around start false false pieces f u (λ h. h)
