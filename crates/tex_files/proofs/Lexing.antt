-- The pieces of a text from its first byte on, and the meaning of bytes within it for those after.
use Rattle.std.proofs.Common.{◌≡◌, ◌∙◌, ℕ, ◌+◌, ◌==◌, ◌||◌, Bool, true, false, if◌then◌else◌, List, [], ◌∷◌, ◌++◌, map, fold, refl, sym, ap, subst, append_assoc, arith}
use Rattle.std.proofs.lemmas.List.Sums.{fold-append}
use Rattle.std.specs.Prelude.{codes}
use Rattle.tex_files.specs.Converting.{words_of, group_fault}
use Rattle.tex_files.specs.Groups.{groups, plain_words, FilePiece, Lexed, with_piece_ended, with_byte, nothing_lexed, pieces_of, is_space}
use Rattle.hyphenation_grammar.specs.Tokens.{is_brace}
use Rattle.tex_files.specs.declared.group.FileForm.{FileForm}
use Rattle.tex_files.specs.declared.group.FileForm.TheVariants.{Tex, Plain}
use Rattle.tex_files.specs.TexFiles.{HasNo}

abbrev pub piece : ℕ → List ℕ → FilePiece
piece line text = record { line = line; text = text }

-- a byte, by its tests: whether it ends a line, is of a comment, is white space, a brace, a backslash
abbrev stepped : (f c s e k : Bool) → Lexed → ℕ → Lexed
stepped f c s e k r b =
    if f then record (with_piece_ended r []) { line = r.line + 1; in_comment = false }
    else (if c then record r { in_comment = true }
    else (if s then with_piece_ended r [] else (if e then with_piece_ended (with_piece_ended r (b ∷ [])) [] else (if k then with_piece_ended r (b ∷ []) else record r { last = r.last ++ b ∷ [] }))))

abbrev pub lexed : (f c s e k : Bool) → ℕ → Bool → List ℕ → ℕ → (ℕ → Bool → List ℕ → List FilePiece) → List FilePiece
lexed f c s e k line inside last b rest =
    if f then piece line last ∷ rest (line + 1) false []
    else (if c then rest line true last
    else (if s then piece line last ∷ rest line inside []
    else (if e then piece line last ∷ piece line (b ∷ []) ∷ rest line inside []
    else (if k then piece line last ∷ rest line inside (b ∷ []) else rest line inside (last ++ b ∷ [])))))

-- the pieces of bytes on that line, in a comment or not, after what the last piece has
abbrev pub lex : ℕ → Bool → List ℕ → List ℕ → List FilePiece
lex line inside last [] = piece line last ∷ []
lex line inside last (b ∷ bs) = lexed (b == 10) (inside || b == 37) (is_space b) (is_brace b) (b == 92) line inside last b (λ l i t. lex l i t bs)

one : (f c s e k : Bool) (r : Lexed) (b : ℕ) (bs : List ℕ)
    → (stepped f c s e k r b).pieces ++ lex (stepped f c s e k r b).line (stepped f c s e k r b).in_comment (stepped f c s e k r b).last bs
    ≡ r.pieces ++ lexed f c s e k r.line r.in_comment r.last b (λ l i t. lex l i t bs)
one true c s e k r b bs = append_assoc r.pieces (piece r.line r.last ∷ []) (lex (r.line + 1) false [] bs)
one false true s e k r b bs = refl
one false false true e k r b bs = append_assoc r.pieces (piece r.line r.last ∷ []) (lex r.line r.in_comment [] bs)
one false false false true k r b bs =
    append_assoc (r.pieces ++ piece r.line r.last ∷ []) (piece r.line (b ∷ []) ∷ []) (lex r.line r.in_comment [] bs)
    ∙ append_assoc r.pieces (piece r.line r.last ∷ []) (piece r.line (b ∷ []) ∷ lex r.line r.in_comment [] bs)
one false false false false true r b bs = append_assoc r.pieces (piece r.line r.last ∷ []) (lex r.line r.in_comment (b ∷ []) bs)
one false false false false false r b bs = refl

lex-fold : (r : Lexed) (bs : List ℕ) → (with_piece_ended (fold with_byte r bs) []).pieces ≡ r.pieces ++ lex r.line r.in_comment r.last bs
lex-fold r [] = refl
lex-fold r (b ∷ bs) = lex-fold (with_byte r b) bs ∙ one (b == 10) (r.in_comment || b == 37) (is_space b) (is_brace b) (b == 92) r b bs

pub pieces-lex : (bs : List ℕ) → pieces_of bs ≡ lex 1 false [] bs
pieces-lex bs = lex-fold nothing_lexed bs

-- ---- Lines.

abbrev pub piece_later : ℕ → FilePiece → FilePiece
piece_later n p = record { line = n + p.line; text = p.text }

next : (n line : ℕ) → (n + line) + 1 ≡ n + (line + 1)
next n line = omega arith

later_one : (n : ℕ) (f c s e k : Bool) (line : ℕ) (inside : Bool) (last : List ℕ) (b : ℕ) (ahead rest : ℕ → Bool → List ℕ → List FilePiece)
    → ((l : ℕ) (i : Bool) (t : List ℕ) → ahead (n + l) i t ≡ map (piece_later n) (rest l i t))
    → lexed f c s e k (n + line) inside last b ahead ≡ map (piece_later n) (lexed f c s e k line inside last b rest)
later_one n true c s e k line inside last b ahead rest h = ap (λ (ps : List FilePiece). piece (n + line) last ∷ ps) (ap (λ (l : ℕ). ahead l false []) (next n line) ∙ h (line + 1) false [])
later_one n false true s e k line inside last b ahead rest h = h line true last
later_one n false false true e k line inside last b ahead rest h = ap (λ (ps : List FilePiece). piece (n + line) last ∷ ps) (h line inside [])
later_one n false false false true k line inside last b ahead rest h = ap (λ (ps : List FilePiece). piece (n + line) last ∷ piece (n + line) (b ∷ []) ∷ ps) (h line inside [])
later_one n false false false false true line inside last b ahead rest h = ap (λ (ps : List FilePiece). piece (n + line) last ∷ ps) (h line inside (b ∷ []))
later_one n false false false false false line inside last b ahead rest h = h line inside (last ++ b ∷ [])

pub lex-later : (n line : ℕ) (inside : Bool) (last bs : List ℕ) → lex (n + line) inside last bs ≡ map (piece_later n) (lex line inside last bs)
lex-later n line inside last [] = refl
lex-later n line inside last (b ∷ bs) =
    later_one n (b == 10) (inside || b == 37) (is_space b) (is_brace b) (b == 92) line inside last b (λ l i t. lex l i t bs) (λ l i t. lex l i t bs) (λ l i t. lex-later n l i t bs)

-- ---- Texts that stand nowhere.

pub rest_free : (part front text : List ℕ) → HasNo part (front ++ text) → HasNo part text
rest_free part front text free before after is =
    free (front ++ before) after (ap (λ (t : List ℕ). front ++ t) is ∙ sym (append_assoc front (before ++ part) after) ∙ ap (λ (t : List ℕ). t ++ after) (sym (append_assoc front before part)))

pub other_byte : (c b : ℕ) (bs : List ℕ) → HasNo (c ∷ []) (b ∷ bs) → (b == c) ≡ false
other_byte c b bs free = by (b == c) refl
  where
    by : (t : Bool) → (b == c) ≡ t → (b == c) ≡ false
    by true e = let is : b ≡ c = grind (arith, e) in absurd (free [] bs (ap (λ (x : ℕ). x ∷ bs) is))
    by false e = e

-- ---- A byte that ends a piece, after a text without comments.

abbrev pub line_after : ℕ → List ℕ → ℕ
line_after line [] = line
line_after line (b ∷ bs) = line_after (if b == 10 then line + 1 else line) bs

end_one : (f s e k : Bool) (line : ℕ) (last : List ℕ) (b : ℕ) (bs : List ℕ) (long short : ℕ → Bool → List ℕ → List FilePiece) (tail : ℕ → List FilePiece)
    → ((l : ℕ) (t : List ℕ) → long l false t ≡ short l false t ++ tail (line_after l bs))
    → lexed f false s e k line false last b long ≡ lexed f false s e k line false last b short ++ tail (line_after (if f then line + 1 else line) bs)
end_one true s e k line last b bs long short tail h = ap (λ (ps : List FilePiece). piece line last ∷ ps) (h (line + 1) [])
end_one false true e k line last b bs long short tail h = ap (λ (ps : List FilePiece). piece line last ∷ ps) (h line [])
end_one false false true k line last b bs long short tail h = ap (λ (ps : List FilePiece). piece line last ∷ piece line (b ∷ []) ∷ ps) (h line [])
end_one false false false true line last b bs long short tail h = ap (λ (ps : List FilePiece). piece line last ∷ ps) (h line (b ∷ []))
end_one false false false false line last b bs long short tail h = h line (last ++ b ∷ [])

pub lex-end : (x : ℕ) (more : List ℕ) (tail : ℕ → List FilePiece) → ((line : ℕ) (last : List ℕ) → lex line false last (x ∷ more) ≡ piece line last ∷ tail line)
    → (line : ℕ) (last text : List ℕ) → HasNo (codes "%") text → lex line false last (text ++ x ∷ more) ≡ lex line false last text ++ tail (line_after line text)
lex-end x more tail ends line last [] free = ends line last
lex-end x more tail ends line last (b ∷ bs) free =
    rw (other_byte 37 b bs free) (end_one (b == 10) (is_space b) (is_brace b) (b == 92) line last b bs (λ l i t. lex l i t (bs ++ x ∷ more)) (λ l i t. lex l i t bs) tail
    (λ l t. lex-end x more tail ends l t bs (rest_free (codes "%") (b ∷ []) bs free)))

-- ---- No piece is a text that stands nowhere.

abbrev pub AllOther : List ℕ → List FilePiece → Type 0
AllOther part [] = Unit {0}
AllOther part (p ∷ ps) = (p.text ≡ part → ⊥) × AllOther part ps

apart_here : (part last bs : List ℕ) → HasNo part (last ++ bs) → last ≡ part → ⊥
apart_here part last bs free is = free [] bs (ap (λ (t : List ℕ). t ++ bs) is)

apart_one : (part last : List ℕ) (b : ℕ) (bs : List ℕ) → HasNo part (last ++ b ∷ bs) → b ∷ [] ≡ part → ⊥
apart_one part last b bs free is = free last bs (ap (λ (t : List ℕ). last ++ (t ++ bs)) is ∙ sym (append_assoc last part bs))

other_one : (f s e k : Bool) (part : List ℕ) (line : ℕ) (last : List ℕ) (b : ℕ) (bs : List ℕ) (rest : ℕ → Bool → List ℕ → List FilePiece)
    → HasNo part (last ++ b ∷ bs) → ((l : ℕ) (t : List ℕ) → HasNo part (t ++ bs) → AllOther part (rest l false t))
    → AllOther part (lexed f false s e k line false last b rest)
other_one true s e k part line last b bs rest free h = (apart_here part last (b ∷ bs) free, h (line + 1) [] (rest_free part (b ∷ []) bs (rest_free part last (b ∷ bs) free)))
other_one false true e k part line last b bs rest free h = (apart_here part last (b ∷ bs) free, h line [] (rest_free part (b ∷ []) bs (rest_free part last (b ∷ bs) free)))
other_one false false true k part line last b bs rest free h =
    (apart_here part last (b ∷ bs) free, (apart_one part last b bs free, h line [] (rest_free part (b ∷ []) bs (rest_free part last (b ∷ bs) free))))
other_one false false false true part line last b bs rest free h = (apart_here part last (b ∷ bs) free, h line (b ∷ []) (rest_free part last (b ∷ bs) free))
other_one false false false false part line last b bs rest free h = h line (last ++ b ∷ []) (subst (HasNo part) (sym (append_assoc last (b ∷ []) bs)) free)

pub lex-other : (part : List ℕ) (line : ℕ) (last text : List ℕ) → HasNo (codes "%") text → HasNo part (last ++ text) → AllOther part (lex line false last text)
lex-other part line last [] clean free = (apart_here part last [] free, tt)
lex-other part line last (b ∷ bs) clean free =
    rw (other_byte 37 b bs clean) (other_one (b == 10) (is_space b) (is_brace b) (b == 92) part line last b bs (λ l i t. lex l i t bs) free
    (λ l t. lex-other part l t bs (rest_free (codes "%") (b ∷ []) bs clean)))

-- ---- Comments.

abbrev commented : Lexed → Lexed
commented r = record r { in_comment = true }

pub fold-comment : (r : Lexed) (comment : List ℕ) → HasNo (codes "\n") comment → fold with_byte (commented r) comment ≡ commented r
fold-comment r [] free = refl
fold-comment r (b ∷ bs) free = rw (other_byte 10 b bs free) (fold-comment r bs (rest_free (codes "\n") (b ∷ []) bs free))

percent : (t : Bool) (r : Lexed) → (if t || true then commented r else r) ≡ commented r
percent true r = refl
percent false r = refl

begun : (r : Lexed) → with_byte r 37 ≡ commented r
begun r = by r.in_comment refl
  where
    by : (t : Bool) → r.in_comment ≡ t → with_byte r 37 ≡ commented r
    by true e = rw e refl
    by false e = rw e refl

pub flat3 : (a b c : List ℕ) → a ++ b ++ c ≡ a ++ (b ++ c)
flat3 a b c = append_assoc a b c

pub flat4 : (a b c d : List ℕ) → a ++ b ++ c ++ d ≡ a ++ (b ++ (c ++ d))
flat4 a b c d = flat3 (a ++ b) c d ∙ flat3 a b (c ++ d)

pub flat5 : (a b c d e : List ℕ) → a ++ b ++ c ++ d ++ e ≡ a ++ (b ++ (c ++ (d ++ e)))
flat5 a b c d e = flat4 (a ++ b) c d e ∙ flat3 a b (c ++ (d ++ e))

pub flat7 : (a b c d e f g : List ℕ) → a ++ b ++ c ++ d ++ e ++ f ++ g ≡ a ++ (b ++ (c ++ (d ++ (e ++ (f ++ g)))))
flat7 a b c d e f g = flat5 (a ++ b ++ c) d e f g ∙ flat3 (a ++ b) c (d ++ (e ++ (f ++ g))) ∙ flat3 a b (c ++ (d ++ (e ++ (f ++ g))))

pub pieces-comment : (before comment after : List ℕ) → HasNo (codes "\n") comment → pieces_of (before ++ codes "%" ++ comment ++ codes "\n" ++ after) ≡ pieces_of (before ++ codes "\n" ++ after)
pieces-comment before comment after free =
    ap pieces_of (flat5 before (codes "%") comment (codes "\n") after)
    ∙ ap (λ (r : Lexed). (with_piece_ended r []).pieces)
    (fold-append with_byte nothing_lexed before (37 ∷ (comment ++ 10 ∷ after))
    ∙ ap (λ (r : Lexed). fold with_byte r (comment ++ 10 ∷ after)) (begun (fold with_byte nothing_lexed before))
    ∙ fold-append with_byte (commented (fold with_byte nothing_lexed before)) comment (10 ∷ after)
    ∙ ap (λ (r : Lexed). fold with_byte r (10 ∷ after)) (fold-comment (fold with_byte nothing_lexed before) comment free)
    ∙ sym (fold-append with_byte nothing_lexed before (10 ∷ after)))
    ∙ ap pieces_of (sym (flat3 before (codes "\n") after))

pub pieces-last_comment : (before comment : List ℕ) → HasNo (codes "\n") comment → pieces_of (before ++ codes "%" ++ comment) ≡ pieces_of before
pieces-last_comment before comment free =
    ap pieces_of (flat3 before (codes "%") comment)
    ∙ ap (λ (r : Lexed). (with_piece_ended r []).pieces)
    (fold-append with_byte nothing_lexed before (37 ∷ comment)
    ∙ ap (λ (r : Lexed). fold with_byte r comment) (begun (fold with_byte nothing_lexed before))
    ∙ fold-comment (fold with_byte nothing_lexed before) comment free)

-- a file is read only by its pieces
pub of_words : (form : FileForm) (text other : List ℕ) → pieces_of text ≡ pieces_of other → words_of form text ≡ words_of form other
of_words Tex text other e = ap (λ (ps : List FilePiece). (groups ps).words) e
of_words (Plain group) text other e = ap (λ (ps : List FilePiece). plain_words group ps) e

pub of_fault : (form : FileForm) (text other : List ℕ) → pieces_of text ≡ pieces_of other → group_fault form text ≡ group_fault form other
of_fault Tex text other e = ap (λ (ps : List FilePiece). (groups ps).fault) e
of_fault (Plain group) text other e = refl
