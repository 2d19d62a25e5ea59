-- A page begins with an XML declaration where its first pieces say so.
use Rattle.std.proofs.Common.{◌≡◌, ℕ, ◌==◌, ◌||◌, ◌&&◌, List, [], ◌∷◌, ◌++◌, drop, refl, ap, sym, ◌∙◌, subst, arith, Bool, true, false, if◌then◌else◌, nat_eq, codes, Some, inl, inr, ◌⊎◌, true≢false}
use Rattle.std.proofs.lemmas.Bool.Decides.{Decides-eqb, nat_tests}
use Rattle.std.proofs.lemmas.Slice.Eq.{starts_is}
use Rattle.std.specs.List.{starts_with}
use Rattle.html_pieces.specs.declared.bytes.PageForm.{PageForm}
use Rattle.html_pieces.specs.declared.bytes.PageForm.TheVariants.{Html, Xml}
use Rattle.html_pieces.specs.declared.tokenizer.State.TheVariants.{TagOpen, MarkupEnd, BogusComment, CdataSection, DoctypeSubset, ProcessingInstruction, ProcessingInstructionMark}
use Rattle.html_pieces.specs.declared.tokenizer.PieceKind.{PieceKind}
use Rattle.html_pieces.specs.declared.tokenizer.PieceKind.TheVariants.{Text}
use Rattle.std.specs.Cmp.Lexicographic.{pointwise}
use Rattle.html_pieces.specs.Bytes.{is_white_space, is_continuation}
use Rattle.html_pieces.specs.Forms.{begins_with_order_mark, begins_with_declaration, has_declaration}
use Rattle.html_pieces.specs.Pieces.{Piece, pieces_from, pieces_of, next, begin, content_after, depth_after, kind_of}
use Rattle.html_pieces.specs.Laws.{joined_pieces, IsOtherText, IsAlike, HaveOtherTexts, KeepsOrderMark}
use Rattle.html_pieces.proofs.NamesEqual.{and_left}
use Rattle.html_pieces.proofs.PieceSteps.{pieces_on}
use Rattle.html_pieces.proofs.Fronts.{is_text, FirstMarkup, first_markup}

-- ---- declarations

abbrev declaration : ℕ → List ℕ → List ℕ
declaration w more = 60 ∷ 63 ∷ 120 ∷ 109 ∷ 108 ∷ w ∷ more

record IsDeclaration (bytes : List ℕ) : Type 0 where
  w : ℕ
  more : List ℕ
  white : is_white_space w ≡ true
  is : bytes ≡ declaration w more

declared_by : (bytes rest : List ℕ) → bytes ≡ codes "<?xml" ++ rest → begins_with_declaration bytes ≡ true → IsDeclaration bytes
declared_by bytes [] is e = absurd (true≢false (sym e ∙ ap begins_with_declaration is))
declared_by bytes (w ∷ more) is e = record { w = w; more = more; white = sym (ap begins_with_declaration is) ∙ e; is = is }

shape : (bytes : List ℕ) → begins_with_declaration bytes ≡ true → IsDeclaration bytes
shape bytes e =
    let tells = starts_is {E = nat_eq} Decides-eqb bytes (codes "<?xml") (starts_with nat_eq bytes (codes "<?xml")) refl in
    declared_by bytes (drop 5 bytes) (tells.0 (and_left (starts_with nat_eq bytes (codes "<?xml")) _ e)) e

-- the first piece begins with a declaration
abbrev pub DeclaresFirst : List Piece → Type 0
DeclaresFirst [] = ⊥
DeclaresFirst (p ∷ ps) = (is_text p.kind ≡ false) × (begins_with_declaration p.bytes ≡ true)

-- so it does, or so does the second one after a byte order mark
pub record DeclaresSecond (p : Piece) (ps : List Piece) : Type 0 where
  pub kind : p.kind ≡ Text
  pub bytes : p.bytes ≡ 0xEF ∷ 0xBB ∷ 0xBF ∷ []
  pub second : DeclaresFirst ps

abbrev pub Declares : List Piece → Type 0
Declares [] = ⊥
Declares (p ∷ ps) = DeclaresFirst (p ∷ ps) ⊎ DeclaresSecond p ps

as_first : (ps : List Piece) → DeclaresFirst ps → Declares ps
as_first [] d = d
as_first (p ∷ ps) d = inl d

declares_first : (w : ℕ) (ps : List Piece) → is_white_space w ≡ true → FirstMarkup (declaration w []) ps → DeclaresFirst ps
declares_first w ps white f = subst DeclaresFirst (sym f.is) (f.kind_is, white)

not_end : (w : ℕ) → is_white_space w ≡ true → w == 62 ≡ false
not_end w e = grind (arith, nat_tests)

not_bracket : (w : ℕ) → is_white_space w ≡ true → w == 91 ≡ false
not_bracket w e = grind (arith, nat_tests)

not_question : (w : ℕ) → is_white_space w ≡ true → w == 63 ≡ false
not_question w e = grind (arith, nat_tests)

html_stays : (k c d p : Bool) → c ≡ false → d ≡ false
    → (if k then Some BogusComment else if c then Some MarkupEnd else if d && (false || false) && p then Some CdataSection else if d && false then Some DoctypeSubset else Some BogusComment) ≡ Some BogusComment
html_stays true c d p e f = refl
html_stays false true d p e f = absurd (cc e)
html_stays false false true p e f = refl
html_stays false false false p e f = refl

xml_stays : (k c : Bool) → c ≡ false → (if k then Some ProcessingInstruction else if c then Some ProcessingInstructionMark else Some ProcessingInstruction) ≡ Some ProcessingInstruction
xml_stays true c e = refl
xml_stays false true e = absurd (cc e)
xml_stays false false e = refl

-- the piece that begins with a declaration
declared_first : (form : PageForm) (w : ℕ) (more : List ℕ) → is_white_space w ≡ true → DeclaresFirst (pieces_from form 0 TagOpen (60 ∷ []) (63 ∷ 120 ∷ 109 ∷ 108 ∷ w ∷ more))
unfolding next
declared_first Html w more white =
    let front = 60 ∷ 63 ∷ 120 ∷ 109 ∷ 108 ∷ [] in
    let on = html_stays (is_continuation w) (w == 62) (w == 91) (pointwise nat_eq front (codes "<![CDATA")) (not_end w white) (not_bracket w white) in
    subst DeclaresFirst (sym (pieces_on Html 0 BogusComment BogusComment front w more on)) (declares_first w _ white (first_markup Html 0 BogusComment (declaration w []) more refl))
declared_first Xml w more white =
    let front = 60 ∷ 63 ∷ 120 ∷ 109 ∷ 108 ∷ [] in
    let on = xml_stays (is_continuation w) (w == 63) (not_question w white) in
    subst DeclaresFirst (sym (pieces_on Xml 0 ProcessingInstruction ProcessingInstruction front w more on)) (declares_first w _ white (first_markup Xml 0 ProcessingInstruction (declaration w []) more refl))

declares_plain : (form : PageForm) (w : ℕ) (more : List ℕ) → is_white_space w ≡ true → Declares (pieces_of form (declaration w more))
unfolding begin
declares_plain form w more white = as_first (pieces_from form 0 TagOpen (60 ∷ []) (63 ∷ 120 ∷ 109 ∷ 108 ∷ w ∷ more)) (declared_first form w more white)

declares_marked : (form : PageForm) (w : ℕ) (more : List ℕ) → is_white_space w ≡ true → Declares (pieces_of form (0xEF ∷ 0xBB ∷ 0xBF ∷ declaration w more))
unfolding next begin content_after depth_after kind_of
declares_marked form w more white = inr (record { kind = refl; bytes = refl; second = declared_first form w more white })

declares_cases : (form : PageForm) (page : List ℕ) (c : Bool) → begins_with_order_mark page ≡ c → has_declaration page ≡ true → Declares (pieces_of form page)
declares_cases form page true m e =
    let tells = starts_is {E = nat_eq} Decides-eqb page (0xEF ∷ 0xBB ∷ 0xBF ∷ []) (begins_with_order_mark page) refl in
    let s = shape (drop 3 page) (sym (ap (λ c. begins_with_declaration (if c then drop 3 page else page)) m) ∙ e) in
    let is : page ≡ 0xEF ∷ 0xBB ∷ 0xBF ∷ declaration s.w s.more = tells.0 m ∙ ap (λ xs. 0xEF ∷ 0xBB ∷ 0xBF ∷ xs) s.is in
    subst (λ p. Declares (pieces_of form p)) (sym is) (declares_marked form s.w s.more s.white)
declares_cases form page false m e =
    let s = shape page (sym (ap (λ c. begins_with_declaration (if c then drop 3 page else page)) m) ∙ e) in
    subst (λ p. Declares (pieces_of form p)) (sym s.is) (declares_plain form s.w s.more s.white)

-- The pieces of a page with a declaration say so.
pub declares_of : (form : PageForm) (page : List ℕ) → has_declaration page ≡ true → Declares (pieces_of form page)
declares_of form page e = declares_cases form page (begins_with_order_mark page) refl e

-- ---- and the other way round

first_joined : (p : Piece) (rest : List ℕ) → begins_with_declaration p.bytes ≡ true → has_declaration (p.bytes ++ rest) ≡ true
first_joined p rest e =
    let s = shape p.bytes e in
    ap (λ xs. has_declaration (xs ++ rest)) s.is ∙ s.white

second_joined : (p : Piece) (rest : List ℕ) → begins_with_declaration p.bytes ≡ true → has_declaration (0xEF ∷ 0xBB ∷ 0xBF ∷ (p.bytes ++ rest)) ≡ true
second_joined p rest e =
    let s = shape p.bytes e in
    ap (λ xs. has_declaration (0xEF ∷ 0xBB ∷ 0xBF ∷ (xs ++ rest))) s.is ∙ s.white

pub declares_joined : (ps : List Piece) → Declares ps → has_declaration (joined_pieces ps) ≡ true
declares_joined [] d = absurd d
declares_joined (p ∷ ps) (inl d) = first_joined p (joined_pieces ps) d.1
declares_joined (p ∷ []) (inr d) = absurd d.second
declares_joined (p ∷ (q ∷ qs)) (inr d) = ap (λ xs. has_declaration (xs ++ (q.bytes ++ joined_pieces qs))) d.bytes ∙ second_joined q (joined_pieces qs) d.second.1

-- ---- other texts

kind_stays : (kind : PieceKind) (bytes other : List ℕ) → IsOtherText kind bytes other → is_text kind ≡ false → other ≡ bytes
kind_stays Text bytes other u e = absurd (cc e)
kind_stays kind bytes other u e = u

other_stays : (p other : Piece) → IsAlike p other → is_text p.kind ≡ false → other.bytes ≡ p.bytes
other_stays p other a e = kind_stays p.kind p.bytes other.bytes a.bytes e

first_on : (ps others : List Piece) → HaveOtherTexts ps others → DeclaresFirst ps → DeclaresFirst others
first_on [] others m d = absurd d
first_on (p ∷ ps) [] m d = absurd m
first_on (p ∷ ps) (q ∷ qs) m d = (ap is_text m.0.kind ∙ d.0, ap begins_with_declaration (other_stays p q m.0 d.0) ∙ d.1)

first_back : (ps others : List Piece) → HaveOtherTexts ps others → DeclaresFirst others → DeclaresFirst ps
first_back [] [] m d = d
first_back [] (q ∷ qs) m d = absurd m
first_back (p ∷ ps) [] m d = absurd m
first_back (p ∷ ps) (q ∷ qs) m d =
    let kind : is_text p.kind ≡ false = sym (ap is_text m.0.kind) ∙ d.0 in
    (kind, sym (ap begins_with_declaration (other_stays p q m.0 kind)) ∙ d.1)

pub declares_on : (ps others : List Piece) → HaveOtherTexts ps others → KeepsOrderMark ps others → Declares ps → Declares others
declares_on [] others m k d = absurd d
declares_on (p ∷ ps) [] m k d = absurd m
declares_on (p ∷ ps) (q ∷ qs) m k (inl d) = inl (first_on (p ∷ ps) (q ∷ qs) m d)
declares_on (p ∷ ps) (q ∷ qs) m k (inr d) =
    inr (record { kind = m.0.kind ∙ d.kind; bytes = k.1 (ap begins_with_order_mark d.bytes) ∙ d.bytes; second = first_on ps qs m.1 d.second })

pub declares_back : (ps others : List Piece) → HaveOtherTexts ps others → KeepsOrderMark ps others → Declares others → Declares ps
declares_back [] [] m k d = d
declares_back [] (q ∷ qs) m k d = absurd m
declares_back (p ∷ ps) [] m k d = absurd m
declares_back (p ∷ ps) (q ∷ qs) m k (inl d) = inl (first_back (p ∷ ps) (q ∷ qs) m d)
declares_back (p ∷ ps) (q ∷ qs) m k (inr d) =
    inr (record {
      kind = sym m.0.kind ∙ d.kind;
      bytes = sym (k.1 (sym k.0 ∙ ap begins_with_order_mark d.bytes)) ∙ d.bytes;
      second = first_back ps qs m.1 d.second;
    })
