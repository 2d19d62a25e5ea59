-- The breaks that a dictionary finds in the pieces of a text, from its start to its end.
use Rattle.std.proofs.Common.{◌≡◌, ℕ, zero, suc, ◌+◌, ◌-◌, ◌<◌, ◌≤◌, ◌==◌, nat_lt, Bool, true, false, cond, List, [], ◌∷◌, ◌++◌, length, map, drop, get_or, chars, slice_range, refl, sym, ap, subst, ◌∙◌, arith, inl, inr}
use Rattle.std.specs.List.{flat_map, All, concat}
use Rattle.std.specs.Str.{IsUtf8, IsCharBoundary}
use Rattle.std.proofs.lemmas.Bool.{false_from_ne_true, cases_lt, or_cases, or_left, false≢true, eqb-true, leb-true}
use Rattle.std.proofs.lemmas.List.{drop_all, get_or-drop}
use Rattle.std.proofs.lemmas.List.Edits.{get_or-between}
use Rattle.std.proofs.lemmas.List.Elements.{All-nil, All-cons}
use Rattle.std.proofs.lemmas.List.Folds.{list_any-append, drop_split}
use Rattle.std.proofs.lemmas.Str.{IsCharBoundary-start, IsUtf8-between}
use Rattle.hyphenation_breaks.specs.Break.{Break, plain_break}
use Rattle.hyphenation_hyphenator.specs.Opportunities.{Ascending}
use Rattle.hyphenation_hyphenator.specs.Laws.{FitWhereAscending}
use Rattle.word_pieces.specs.Pieces.{IsSlice, AreSlices, PiecesAreSlices}
use Rattle.hyphenation_segments.specs.Fits.{FitsFrom}
use Rattle.unicode_segmentation.specs.Segments.{with_offsets}
use Rattle.unicode_segmentation.specs.Word.{word_bounds}
use Rattle.linefill.specs.Cuts.{is_one_of, breaks_in, word_breaks, is_plain, is_cut, cuts_after}
use Rattle.linefill.specs.Ends.{EachFits, AreEnds}
use Rattle.linefill.specs.Lines.{line, width, fits, line_ends, lines_to, parts_to, DividesFitting}
use Rattle.linefill.specs.Private.Filling.{FillState, remaining_ends, all_lines}
use Rattle.linefill.specs.Private.WordBreaks.{pending_breaks, remaining_pieces, RiseBetween, FollowBetween, FitsUsize, HasBreaksAfter}
use Rattle.linefill.specs.declared.word_breaks.WordBreaks.{WordBreaks}
use Rattle.linefill.proofs.Division.{Shortens, stays_ahead, are_ends}
use Rattle.linefill.proofs.CutRows.{row_end, row_is}
use Rattle.linefill.proofs.FillWalk.{IsSound, end_is_cut, cut_boundary}
use Rattle.linefill.proofs.Widths.{shorter}

-- The breaks of each word ascend strictly on its character boundaries.
abbrev pub AreAscending : (List ℕ → List Break) → Type 0
AreAscending breaks_of = (word : List ℕ) → IsUtf8 word → Ascending word (breaks_of word)

-- Each place is no less than the least one and a character boundary, by a law of the hyphenator.
abbrev Ascend : List ℕ → ℕ → List ℕ → Type 0
Ascend text least [] = Unit {0}
Ascend text least (p ∷ ps) = (least ≤ p) × IsCharBoundary text p × Ascend text (p + 1) ps

fits_ascend : (text : List ℕ) (last_end least : ℕ) (places : List ℕ) → FitsFrom text last_end least (map plain_break places) → Ascend text least places
fits_ascend text last_end least [] f = tt
fits_ascend text last_end least (p ∷ ps) f = (f.0.ascends, f.0.place, fits_ascend text (p + 0) (p + 1) ps f.1)

ascends : (word : List ℕ) (breaks : List Break) → FitWhereAscending → Ascending word breaks → Ascend word 0 (map (λ b. b.place) breaks)
ascends word breaks law a = let places = map (λ b. b.place) breaks in fits_ascend word 0 0 places ((law word places).1 a)

-- ---- the breaks of one piece

in_piece : (text : List ℕ) (x : ℕ × List ℕ) (b : ℕ) → IsSlice text x → IsCharBoundary x.1 b → IsCharBoundary text (x.0 + b)
in_piece text x b is at =
    elim (cases_lt b (length x.1)) [
      | inr last ↦ subst (λ n. IsCharBoundary text (x.0 + n)) (omega (arith, at.0)) is.end
      | inl lt ↦
          let same : get_or x.1 b 0 ≡ get_or text (x.0 + b) 0 = ap (λ s. get_or s b 0) is.bytes ∙ get_or-between text x.0 (x.0 + length x.1) b 0 (omega arith) in
          (omega (arith, is.end.0), λ _ high. omega (arith, at.1 lt (omega (arith, same)), same))
    ]

piece_utf8 : (text : List ℕ) (x : ℕ × List ℕ) → IsUtf8 text → IsSlice text x → IsUtf8 x.1
piece_utf8 text x u is = subst IsUtf8 (sym is.bytes) (IsUtf8-between text x.0 (x.0 + length x.1) u (omega arith) is.start is.end)

placed_boundary : (text : List ℕ) (x : ℕ × List ℕ) (least p : ℕ) (bs : List Break) → IsSlice text x → Ascend x.1 least (map (λ b. b.place) bs) → is_one_of p (map (λ b. x.0 + b.place) bs) ≡ true → IsCharBoundary text p
placed_boundary text x least p [] is a i = absurd (false≢true i)
placed_boundary text x least p (b ∷ bs) is a i =
    elim (or_cases (p == (x.0 + b.place)) (is_one_of p (map (λ c. x.0 + c.place) bs)) i) [
      | inl same ↦ subst (IsCharBoundary text) (sym (eqb-true p (x.0 + b.place) same)) (in_piece text x b.place is a.1)
      | inr later ↦ placed_boundary text x (b.place + 1) p bs is a.2 later
    ]

piece_rises : (x : ℕ × List ℕ) (least from : ℕ) (bs : List Break) → from ≤ x.0 + least → from ≤ x.0 + length x.1 → Ascend x.1 least (map (λ b. b.place) bs) → RiseBetween from (x.0 + length x.1) (map (λ b. x.0 + b.place) bs)
piece_rises x least from [] e top a = top
piece_rises x least from (b ∷ bs) e top a = (omega (arith, a.0, e), piece_rises x (b.place + 1) (x.0 + b.place) bs (omega arith) (omega (arith, a.1.0)) a.2)

pub placed : (offset : ℕ) (bs : List ℕ) → map (λ b. offset + b) bs ≡ map (λ b. offset + b.place) (map plain_break bs)
placed offset [] = refl
placed offset (b ∷ bs) = ap (λ ps. (offset + b) ∷ ps) (placed offset bs)

-- ---- the pieces of a text

follow : (breaks_of : List ℕ → List Break) (text : List ℕ) (at : ℕ) (ps : List (List ℕ)) → FitWhereAscending → IsUtf8 text → AreAscending breaks_of → at ≤ length text → AreSlices text (with_offsets at ps) → FollowBetween breaks_of at (length text) (with_offsets at ps)
unfolding with_offsets
follow breaks_of text at [] law u ascend within are = within
follow breaks_of text at (p ∷ ps) law u ascend within are =
    let x : ℕ × List ℕ = (at, p) in (
      omega arith,
      piece_rises x 0 at (breaks_of p) (omega arith) (omega arith) (ascends p (breaks_of p) law (ascend p (piece_utf8 text x u are.0))),
      follow breaks_of text (at + length p) ps law u ascend are.0.end.0 are.1,
    )

in_some_piece : (breaks_of : List ℕ → List Break) (text : List ℕ) (xs : List (ℕ × List ℕ)) (p : ℕ) → FitWhereAscending → IsUtf8 text → AreAscending breaks_of → AreSlices text xs → is_one_of p (flat_map (breaks_in breaks_of) xs) ≡ true → IsCharBoundary text p
in_some_piece breaks_of text [] p law u ascend are i = absurd (false≢true i)
in_some_piece breaks_of text (x ∷ xs) p law u ascend are i =
    let here = breaks_in breaks_of x in
    let rest = flat_map (breaks_in breaks_of) xs in
    elim (or_cases (is_one_of p here) (is_one_of p rest) (sym (list_any-append (λ b. p == b) here rest) ∙ i)) [
      | inl first ↦ placed_boundary text x 0 p (breaks_of x.1) are.0 (ascends x.1 (breaks_of x.1) law (ascend x.1 (piece_utf8 text x u are.0))) first
      | inr later ↦ in_some_piece breaks_of text xs p law u ascend are.1 later
    ]

pub sound : (breaks_of : List ℕ → List Break) (text : List ℕ) → PiecesAreSlices → FitWhereAscending → IsUtf8 text → AreAscending breaks_of → IsSound text (word_breaks breaks_of text)
sound breaks_of text slices law u ascend = record { utf8 = u; boundary = λ p i. in_some_piece breaks_of text (with_offsets 0 (word_bounds text)) p law u ascend (slices text u) i }

-- All breaks of a text are to come at its start.
pub at_start : (breaks_of : List ℕ → List Break) (text : List ℕ) (b : WordBreaks) → PiecesAreSlices → FitWhereAscending → IsUtf8 text → AreAscending breaks_of → FitsUsize (length text) → pending_breaks b ≡ [] → remaining_pieces b ≡ with_offsets 0 (word_bounds text) → b.reached ≡ 0 → HasBreaksAfter breaks_of text 0 b
at_start breaks_of text b slices law u ascend end_fits_usize pending pieces reached =
    record {
      order = record {
        end = length text;
        end_fits_usize = end_fits_usize;
        pending = subst (RiseBetween 0 b.reached) (sym pending) (omega arith);
        pieces = subst (λ at. FollowBetween breaks_of at (length text) (remaining_pieces b)) (sym reached) (subst (FollowBetween breaks_of 0 (length text)) (sym pieces) (follow breaks_of text 0 (word_bounds text) law u ascend (omega arith) (slices text u)));
      };
      stay = λ p lt. ap (λ ps. is_one_of p (ps ++ flat_map (breaks_in breaks_of) (remaining_pieces b))) pending ∙ ap (λ xs. is_one_of p (flat_map (breaks_in breaks_of) xs)) pieces;
    }

pub after_later : (breaks_of : List ℕ → List Break) (text : List ℕ) (from later : ℕ) (b : WordBreaks) → from ≤ later → HasBreaksAfter breaks_of text from b → HasBreaksAfter breaks_of text later b
after_later breaks_of text from later b le h = record { order = h.order; stay = λ p lt. h.stay p (omega arith) }

pub plain_boundary : (text : List ℕ) (place : ℕ) → IsUtf8 text → 0 < place → is_plain text place ≡ true → IsCharBoundary text place
plain_boundary text place u some plain_break = cut_boundary text 0 [] place (record { utf8 = u; boundary = λ p i. absurd (false≢true i) }) some (or_left (is_plain text place) (is_one_of place []) plain_break)

-- A place after bytes that are no spaces is not plain, except at the text's end.
pub not_plain : (text : List ℕ) (from n : ℕ) → ((k : ℕ) → k < n → get_or (drop from text) k 0 ≡ 32 → ⊥) → (p : ℕ) → from < p → p < from + n + 1 → p < length text → is_plain text p ≡ false
not_plain text from n none p l u v =
    let k = p - 1 - from in
    let at : from + k ≡ p - 1 = omega arith in
    let byte : get_or text (p - 1) 0 ≡ 32 → ⊥ = λ e. none k (omega arith) (get_or-drop from text k 0 ∙ ap (λ i. get_or text i 0) at ∙ e) in
    false_from_ne_true (is_plain text p) (λ h. elim (or_cases (get_or text (p - 1) 0 == 32) (p == length text) h) [
      | inl e ↦ byte (eqb-true (get_or text (p - 1) 0) 32 e)
      | inr e ↦ omega (arith, eqb-true p (length text) e)
    ])

-- The last line is left at the end of the text.
pub lines_at_end : (text : List ℕ) (columns : ℕ) (breaks : List ℕ) (s : FillState) → s.end ≡ length text → all_lines text columns breaks s ≡ s.done ++ cond (nat_lt s.start s.end) (line text s.start s.end ∷ []) []
lines_at_end text columns breaks s e =
    ap (λ cs. s.done ++ lines_to text s.start (remaining_ends (fits text columns) s.start s.end cs)) (ap (cuts_after text breaks) e ∙ row_end (is_cut text breaks) (length text))
    ∙ ap (λ xs. s.done ++ xs) (elim (nat_lt s.start s.end) as (λ b. lines_to text s.start (cond b (s.end ∷ []) []) ≡ cond b (line text s.start s.end ∷ []) []) [ true ↦ refl | false ↦ refl ])

-- ---- the laws

any_cut_boundary : (text : List ℕ) (columns : ℕ) (breaks : List ℕ) (p : ℕ) → IsSound text breaks → is_cut text breaks p ≡ true → IsCharBoundary text p
any_cut_boundary text columns breaks zero good cut = IsCharBoundary-start text good.utf8
any_cut_boundary text columns breaks (suc p) good cut = cut_boundary text columns breaks (suc p) good (omega arith) cut

pub fewest : (text : List ℕ) (columns : ℕ) (breaks row_of : List ℕ) → IsSound text breaks → DividesFitting text columns breaks row_of
    → (length (line_ends text columns breaks) ≤ length row_of) × EachFits (fits text columns) 0 (line_ends text columns breaks)
fewest text columns breaks row_of good d =
    let test = is_cut text breaks in
    let n = length text in
    let start = IsCharBoundary-start text good.utf8 in
    let laws : Shortens (IsCharBoundary text) test (fits text columns) n =
    record {
      starts = λ c cut. any_cut_boundary text columns breaks c good cut;
      shorter = λ a b c at bt ab bc cut f. shorter text columns a b c good.utf8 ab bc at bt (any_cut_boundary text columns breaks c good cut) f;
    } in
    stays_ahead (IsCharBoundary text) test (fits text columns) n 0 0 0 (cuts_after text breaks 0) row_of laws start start (omega arith) (omega arith) (row_is test n 0 (omega arith) (end_is_cut text columns breaks)) (inl refl) d.0 d.1

pub right_ends : (text : List ℕ) (columns : ℕ) (breaks : List ℕ) → IsSound text breaks → AreEnds (is_cut text breaks) (fits text columns) (length text) 0 (line_ends text columns breaks)
right_ends text columns breaks good =
    are_ends (IsCharBoundary text) (is_cut text breaks) (fits text columns) (length text) 0 0 (cuts_after text breaks 0) (λ p cut. (any_cut_boundary text columns breaks p good cut).0) (omega arith)
    (row_is (is_cut text breaks) (length text) 0 (omega arith) (end_is_cut text columns breaks)) (inl refl)

pub count_lines : (text : List ℕ) (start : ℕ) (es : List ℕ) → length (lines_to text start es) ≡ length es
count_lines text start [] = refl
count_lines text start (e ∷ es) = ap suc (count_lines text e es)

pub narrow_lines : (text : List ℕ) (columns start : ℕ) (es : List ℕ) → EachFits (fits text columns) start es → All (λ line. length (chars line) ≤ columns) (lines_to text start es)
narrow_lines text columns start [] f = All-nil (λ line. length (chars line) ≤ columns)
narrow_lines text columns start (e ∷ es) f =
    All-cons (λ line. length (chars line) ≤ columns) (line text start e) (lines_to text e es) (leb-true (width text start e) columns f.0) (narrow_lines text columns e es f.1)

parts_join : (test : ℕ → Bool) (line_fits : ℕ → ℕ → Bool) (text : List ℕ) (start : ℕ) (es : List ℕ) → AreEnds test line_fits (length text) start es → concat (parts_to text start es) ≡ drop start text
parts_join test line_fits text start [] h = sym (drop_all start text (omega (arith, h)))
parts_join test line_fits text start (e ∷ es) h =
    let after : start ≤ e = elim h.0 [ inl g ↦ omega (arith, g.after) | inr l ↦ omega (arith, l.after) ] in
    ap (λ s. slice_range text start e ++ s) (parts_join test line_fits text e es h.1) ∙ sym (drop_split text start e after)

-- The lines without their hyphens join to the text.
pub join_to_text : (text : List ℕ) (columns : ℕ) (breaks : List ℕ) → IsSound text breaks → concat (parts_to text 0 (line_ends text columns breaks)) ≡ text
join_to_text text columns breaks good = parts_join (is_cut text breaks) (fits text columns) text 0 (line_ends text columns breaks) (right_ends text columns breaks good)
