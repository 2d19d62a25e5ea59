-- A text in Markdown that is written piece by piece is the text with marks at its places, and has no places left then.
use Rattle.std.proofs.Common.{◌≡◌, ℕ, ◌==◌, not, IsUtf8, Bool, true, false, List, [], ◌∷◌, ◌++◌, length, take, drop, suc, zero, refl, ap, sym, ◌∙◌, subst, if◌then◌else◌}
use Rattle.std.proofs.lemmas.Bool.{eq-eqb, or_left, or_right}
use Rattle.hyphenation_segments.specs.Laws.{with_marks}
use Rattle.markdown_pieces.specs.Laws.{joined_pieces, AreUtf8, AreCutAlike, IsPlain, begins_alike, IsOtherText, HaveOtherTexts}
use Rattle.markdown_pieces.specs.Pieces.{Piece, pieces_of}
use Rattle.markdown_pieces.specs.declared.cutting.PieceKind.{PieceKind}
use Rattle.markdown_pieces.specs.declared.cutting.PieceKind.TheVariants.{Text, Bracketed, Other}
use Rattle.hyphenation_text.specs.Dictionaries.{Breaks}
use Rattle.hyphenation_text.specs.Laws.{IsMarked, soft_hyphen}
use Rattle.hyphenation_text.specs.Markdown.{first_touches, last_touches, is_touched_by, ends_link, is_link, stays, markdown_places}
use Rattle.hyphenation_text.specs.Places.{shifted, text_places}
use Rattle.hyphenation_text.specs.Dictionaries.{AllAscend}
use Rattle.hyphenation_text.specs.Texts.{marked_text}
use Rattle.hyphenation_text.specs.Private.MarkedMarkdown.{marked_markdown, marked_markdown_piece}
use Rattle.hyphenation_text.proofs.Marks.{joined, unmarked}
use Rattle.hyphenation_text.proofs.MarkedTexts.{Laws, unless, text_marked}
use Rattle.hyphenation_text.proofs.SecondRun.{second_run}

-- ---- marks at the places

-- The breaks of a piece before some others.
abbrev own_places : Breaks → Bool → PieceKind → List ℕ → List Piece → List ℕ
own_places breaks before kind bytes ps = if stays kind ps then [] else text_places breaks before (is_touched_by ps) bytes

piece_marked : (laws : Laws) (breaks : Breaks) (mark : List ℕ) (before : Bool) (kind : PieceKind) (bytes : List ℕ) (ps : List Piece) → AllAscend breaks → IsUtf8 bytes
    → IsMarked mark bytes (own_places breaks before kind bytes ps) (marked_markdown_piece breaks mark before kind bytes ps)
piece_marked laws breaks mark before kind bytes ps a u = unless (stays kind ps) (text_marked laws breaks mark before (is_touched_by ps) bytes a u)

pieces_marked : (laws : Laws) (breaks : Breaks) (mark : List ℕ) (before : Bool) (ps : List Piece) → AllAscend breaks → AreUtf8 ps
    → IsMarked mark (joined_pieces ps) (markdown_places breaks before ps) (marked_markdown breaks mark before ps)
unfolding marked_markdown
pieces_marked laws breaks mark before [] a u = unmarked mark []
pieces_marked laws breaks mark before (p ∷ ps) a u =
    joined (piece_marked laws breaks mark before p.kind p.bytes ps a u.0) (pieces_marked laws breaks mark (last_touches p.kind p.bytes) ps a u.1)

-- A text is written with marks at its places, where its pieces join to it and are UTF-8.
pub markdown_marked : (laws : Laws) (breaks : Breaks) (mark text : List ℕ) → AllAscend breaks → joined_pieces (pieces_of text) ≡ text → AreUtf8 (pieces_of text)
    → IsMarked mark text (markdown_places breaks false (pieces_of text)) (marked_markdown breaks mark false (pieces_of text))
markdown_marked laws breaks mark text a join u =
    subst (λ t. IsMarked mark t (markdown_places breaks false (pieces_of text)) (marked_markdown breaks mark false (pieces_of text))) join
    (pieces_marked laws breaks mark false (pieces_of text) a u)

-- ---- a second run

-- The pieces of a text, each with its marks.
abbrev marked_list : Breaks → Bool → List Piece → List Piece
marked_list breaks before [] = []
marked_list breaks before (p ∷ ps) =
    record { kind = p.kind; bytes = marked_markdown_piece breaks soft_hyphen before p.kind p.bytes ps } ∷ marked_list breaks (last_touches p.kind p.bytes) ps

list_joins : (breaks : Breaks) (before : Bool) (ps : List Piece) → joined_pieces (marked_list breaks before ps) ≡ marked_markdown breaks soft_hyphen before ps
unfolding marked_markdown
list_joins breaks before [] = refl
list_joins breaks before (p ∷ ps) = ap (λ xs. marked_markdown_piece breaks soft_hyphen before p.kind p.bytes ps ++ xs) (list_joins breaks (last_touches p.kind p.bytes) ps)

plain-append : (xs ys : List ℕ) → IsPlain xs → IsPlain ys → IsPlain (xs ++ ys)
plain-append [] ys v w = w
plain-append (x ∷ xs) ys v w = (v.0, plain-append xs ys v.1 w)

plain-take : (n : ℕ) (xs : List ℕ) → IsPlain xs → IsPlain (take n xs)
plain-take zero xs w = tt
plain-take (suc n) [] w = tt
plain-take (suc n) (x ∷ xs) w = (w.0, plain-take n xs w.1)

plain-drop : (n : ℕ) (xs : List ℕ) → IsPlain xs → IsPlain (drop n xs)
plain-drop zero xs w = w
plain-drop (suc n) [] w = tt
plain-drop (suc n) (x ∷ xs) w = plain-drop n xs w.1

plain-marks : (text places : List ℕ) → IsPlain text → IsPlain (with_marks soft_hyphen text places)
plain-marks text [] w = w
plain-marks text (p ∷ ps) w =
    plain-append (take p text ++ soft_hyphen) (drop p (with_marks soft_hyphen text ps))
    (plain-append (take p text) soft_hyphen (plain-take p text w) (refl, (refl, tt)))
    (plain-drop p (with_marks soft_hyphen text ps) (plain-marks text ps w))

marks_begin_alike : (text places : List ℕ) → begins_alike text (with_marks soft_hyphen text places) ≡ true
marks_begin_alike [] places = refl
marks_begin_alike (b ∷ bs) [] = or_left (b == b) (b == 0xC2) (eq-eqb b b refl)
marks_begin_alike (b ∷ bs) (zero ∷ ps) = or_right (0xC2 == b) (0xC2 == 0xC2) refl
marks_begin_alike (b ∷ bs) (suc p ∷ ps) = or_left (b == b) (b == 0xC2) (eq-eqb b b refl)

other_by_marks : (text places other : List ℕ) → other ≡ with_marks soft_hyphen text places → (IsPlain text → IsPlain other) × (begins_alike text other ≡ true)
other_by_marks text places other e = (λ plain. subst IsPlain (sym e) (plain-marks text places plain), ap (begins_alike text) e ∙ marks_begin_alike text places)

other_text : (laws : Laws) (breaks : Breaks) (before : Bool) (kind : PieceKind) (bytes : List ℕ) (ps : List Piece) → AllAscend breaks → IsUtf8 bytes
    → IsOtherText kind bytes (marked_markdown_piece breaks soft_hyphen before kind bytes ps)
other_text laws breaks before Other bytes ps a u = refl
other_text laws breaks before Text bytes ps a u =
    other_by_marks bytes (own_places breaks before Text bytes ps) _ (piece_marked laws breaks soft_hyphen before Text bytes ps a u).is
other_text laws breaks before Bracketed bytes ps a u =
    other_by_marks bytes (own_places breaks before Bracketed bytes ps) _ (piece_marked laws breaks soft_hyphen before Bracketed bytes ps a u).is

other_texts : (laws : Laws) (breaks : Breaks) (before : Bool) (ps : List Piece) → AllAscend breaks → AreUtf8 ps → HaveOtherTexts ps (marked_list breaks before ps)
other_texts laws breaks before [] a u = tt
other_texts laws breaks before (p ∷ ps) a u = (
  record { kind = refl; bytes = other_text laws breaks before p.kind p.bytes ps a u.0 },
  other_texts laws breaks (last_touches p.kind p.bytes) ps a u.1,
)

same_first : (breaks : Breaks) (before : Bool) (kind : PieceKind) (bytes : List ℕ) (ps : List Piece) → first_touches kind (marked_markdown_piece breaks soft_hyphen before kind bytes ps) ≡ first_touches kind bytes
same_first breaks before Text bytes ps = refl
same_first breaks before Bracketed bytes ps = refl
same_first breaks before Other bytes ps = refl

same_last : (breaks : Breaks) (before : Bool) (kind : PieceKind) (bytes : List ℕ) (ps : List Piece) → last_touches kind (marked_markdown_piece breaks soft_hyphen before kind bytes ps) ≡ last_touches kind bytes
same_last breaks before Text bytes ps = refl
same_last breaks before Bracketed bytes ps = refl
same_last breaks before Other bytes ps = refl

same_link : (breaks : Breaks) (before : Bool) (kind : PieceKind) (bytes : List ℕ) (ps : List Piece) → ends_link kind (marked_markdown_piece breaks soft_hyphen before kind bytes ps) ≡ ends_link kind bytes
same_link breaks before Text bytes ps = refl
same_link breaks before Bracketed bytes ps = refl
same_link breaks before Other bytes ps = refl

same_touched : (breaks : Breaks) (before : Bool) (ps : List Piece) → is_touched_by (marked_list breaks before ps) ≡ is_touched_by ps
same_touched breaks before [] = refl
same_touched breaks before (p ∷ ps) = same_first breaks before p.kind p.bytes ps

same_links : (breaks : Breaks) (before : Bool) (ps : List Piece) → is_link (marked_list breaks before ps) ≡ is_link ps
same_links breaks before [] = refl
same_links breaks before (p ∷ ps) = same_link breaks before p.kind p.bytes ps

same_stays : (breaks : Breaks) (before : Bool) (kind : PieceKind) (ps : List Piece) → stays kind (marked_list breaks before ps) ≡ stays kind ps
same_stays breaks before Text ps = refl
same_stays breaks before Bracketed ps = ap not (same_links breaks before ps)
same_stays breaks before Other ps = refl

piece_done : (laws : Laws) (breaks : Breaks) (before after : Bool) (bytes : List ℕ) (c : Bool) → AllAscend breaks → IsUtf8 bytes
    → (if c then [] else text_places breaks before after (if c then bytes else marked_text breaks soft_hyphen before after bytes)) ≡ []
piece_done laws breaks before after bytes true a u = refl
piece_done laws breaks before after bytes false a u = second_run laws breaks before after before after bytes (λ h. h) (λ h. h) a u

list_done : (laws : Laws) (breaks : Breaks) (before : Bool) (ps : List Piece) → AllAscend breaks → AreUtf8 ps → markdown_places breaks before (marked_list breaks before ps) ≡ []
list_done laws breaks before [] a u = refl
list_done laws breaks before (p ∷ ps) a u =
    let bytes = marked_markdown_piece breaks soft_hyphen before p.kind p.bytes ps in
    let rest = marked_list breaks (last_touches p.kind p.bytes) ps in
    let later = markdown_places breaks (last_touches p.kind bytes) rest in
    ap (λ c. (if c then [] else text_places breaks before (is_touched_by rest) bytes) ++ shifted (length bytes) later) (same_stays breaks (last_touches p.kind p.bytes) p.kind ps)
    ∙ ap (λ c. (if stays p.kind ps then [] else text_places breaks before c bytes) ++ shifted (length bytes) later) (same_touched breaks (last_touches p.kind p.bytes) ps)
    ∙ ap (λ xs. xs ++ shifted (length bytes) later) (piece_done laws breaks before (is_touched_by ps) p.bytes (stays p.kind ps) a u.0)
    ∙ ap (λ c. shifted (length bytes) (markdown_places breaks c rest)) (same_last breaks before p.kind p.bytes ps)
    ∙ ap (shifted (length bytes)) (list_done laws breaks (last_touches p.kind p.bytes) ps a u.1)

-- A text that was written with soft hyphens has no places left.
pub markdown_done : (laws : Laws) (breaks : Breaks) (text output : List ℕ) → AllAscend breaks → AreUtf8 (pieces_of text) → AreCutAlike → output ≡ marked_markdown breaks soft_hyphen false (pieces_of text)
    → markdown_places breaks false (pieces_of output) ≡ []
markdown_done laws breaks text output a u cut e =
    let pieces = pieces_of text in
    let others = marked_list breaks false pieces in
    ap (λ t. markdown_places breaks false (pieces_of t)) (e ∙ sym (list_joins breaks false pieces))
    ∙ ap (markdown_places breaks false) (cut text others (other_texts laws breaks false pieces a u))
    ∙ list_done laws breaks false pieces a u
