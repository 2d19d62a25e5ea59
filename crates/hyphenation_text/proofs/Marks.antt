-- Marks in texts that are put together.
use Rattle.std.proofs.Common.{◌≡◌, ℕ, ◌+◌, ◌≤◌, List, [], ◌∷◌, ◌++◌, map, length, take, drop, refl, ap, sym, ◌∙◌, arith, append_assoc, append-nil, length-append, length-drop, Option, Some, None}
use Rattle.std.proofs.Math.Seq.{take-append-add, drop-append-add}
use Rattle.std.proofs.lemmas.List.{take-append-le, drop-append-le, length-take-le}
use Rattle.std.specs.List.{concat}
use Rattle.hyphenation_breaks.specs.Break.{plain_break}
use Rattle.hyphenation_segments.specs.Fits.{Fits}
use Rattle.hyphenation_segments.specs.Segments.{segments, marked_segments}
use Rattle.hyphenation_segments.specs.Laws.{with_marks, JoinsToText, JoinsToMarkedText}
use Rattle.hyphenation_text.specs.Laws.{IsMarked, IsPageWithMarks, Within, without_marks, joined_with}
use Rattle.hyphenation_text.specs.Places.{shifted}

pub unmarked : (mark text : List ℕ) → IsMarked mark text [] text
unmarked mark text = record { is = refl; within = tt; parts = (Some text ∷ [], append-nil text, append-nil text) }

regroup : (a t m d : List ℕ) → ((a ++ t) ++ m) ++ d ≡ a ++ ((t ++ m) ++ d)
regroup a t m d = simp append_assoc

marks_after : (mark a b pb : List ℕ) → with_marks mark (a ++ b) (shifted (length a) pb) ≡ a ++ with_marks mark b pb
marks_after mark a b [] = refl
marks_after mark a b (p ∷ ps) =
    let rest = with_marks mark b ps in
    ap (λ xs. take (length a + p) (a ++ b) ++ mark ++ drop (length a + p) xs) (marks_after mark a b ps)
    ∙ ap (λ xs. xs ++ mark ++ drop (length a + p) (a ++ rest)) (take-append-add a b p)
    ∙ ap (λ xs. (a ++ take p b) ++ mark ++ xs) (drop-append-add a rest p)
    ∙ regroup a (take p b) mark (drop p rest)

marks_long : (mark text ps : List ℕ) → Within (length text) ps → length text ≤ length (with_marks mark text ps)
marks_long mark text [] w = omega arith
marks_long mark text (p ∷ ps) w =
    let rest = with_marks mark text ps in
    let le : p ≤ length text = w.0 in
    omega (arith, marks_long mark text ps w.1, length-append (take p text ++ mark) (drop p rest), length-append (take p text) mark, length-take-le p text le, length-drop p rest)

marks_join : (mark a b pa pb : List ℕ) → Within (length a) pa → with_marks mark (a ++ b) (pa ++ shifted (length a) pb) ≡ with_marks mark a pa ++ with_marks mark b pb
marks_join mark a b [] pb w = marks_after mark a b pb
marks_join mark a b (p ∷ ps) pb w =
    let wa = with_marks mark a ps in
    let wb = with_marks mark b pb in
    let long : p ≤ length wa = omega (arith, w.0, marks_long mark a ps w.1) in
    ap (λ xs. take p (a ++ b) ++ mark ++ drop p xs) (marks_join mark a b ps pb w.1)
    ∙ ap (λ xs. xs ++ mark ++ drop p (wa ++ wb)) (take-append-le p a b w.0)
    ∙ ap (λ xs. take p a ++ mark ++ xs) (drop-append-le p wa wb long)
    ∙ sym (append_assoc (take p a ++ mark) (drop p wa) wb)

within_after : (a b pb : List ℕ) → Within (length b) pb → Within (length (a ++ b)) (shifted (length a) pb)
within_after a b [] w = tt
within_after a b (p ∷ ps) w = (omega (arith, w.0, length-append a b), within_after a b ps w.1)

within_join : (a b pa pb : List ℕ) → Within (length a) pa → Within (length b) pb → Within (length (a ++ b)) (pa ++ shifted (length a) pb)
within_join a b [] pb w v = within_after a b pb v
within_join a b (p ∷ ps) pb w v = (omega (arith, w.0, length-append a b), within_join a b ps pb w.1 v)

without_marks-append : (ps qs : List (Option (List ℕ))) → without_marks (ps ++ qs) ≡ without_marks ps ++ without_marks qs
without_marks-append [] qs = refl
without_marks-append (Some part ∷ ps) qs = ap (λ xs. part ++ xs) (without_marks-append ps qs) ∙ sym (append_assoc part (without_marks ps) (without_marks qs))
without_marks-append (None ∷ ps) qs = without_marks-append ps qs

joined_with-append : (mark : List ℕ) (ps qs : List (Option (List ℕ))) → joined_with mark (ps ++ qs) ≡ joined_with mark ps ++ joined_with mark qs
joined_with-append mark [] qs = refl
joined_with-append mark (Some part ∷ ps) qs = ap (λ xs. part ++ xs) (joined_with-append mark ps qs) ∙ sym (append_assoc part (joined_with mark ps) (joined_with mark qs))
joined_with-append mark (None ∷ ps) qs = ap (λ xs. mark ++ xs) (joined_with-append mark ps qs) ∙ sym (append_assoc mark (joined_with mark ps) (joined_with mark qs))

parts_join : (mark a b oa ob : List ℕ) → IsPageWithMarks mark a oa → IsPageWithMarks mark b ob → IsPageWithMarks mark (a ++ b) (oa ++ ob)
parts_join mark a b oa ob x y = (
  x.0 ++ y.0,
  without_marks-append x.0 y.0 ∙ ap (λ xs. xs ++ without_marks y.0) x.1 ∙ ap (λ ys. a ++ ys) y.1,
  joined_with-append mark x.0 y.0 ∙ ap (λ xs. xs ++ joined_with mark y.0) x.2 ∙ ap (λ ys. oa ++ ys) y.2,
)

-- the segments of a word, with marks between them
interleaved : List (List ℕ) → List (Option (List ℕ))
interleaved [] = []
interleaved (s ∷ []) = Some s ∷ []
interleaved (s ∷ (t ∷ ss)) = Some s ∷ (None ∷ interleaved (t ∷ ss))

without_marks-interleaved : (ss : List (List ℕ)) → without_marks (interleaved ss) ≡ concat ss
unfolding interleaved
without_marks-interleaved [] = refl
without_marks-interleaved (s ∷ []) = refl
without_marks-interleaved (s ∷ (t ∷ ss)) = ap (λ xs. s ++ xs) (without_marks-interleaved (t ∷ ss))

joined_with-interleaved : (mark : List ℕ) (ss : List (List ℕ)) → joined_with mark (interleaved ss) ≡ concat (marked_segments mark ss)
unfolding interleaved
joined_with-interleaved mark [] = refl
joined_with-interleaved mark (s ∷ []) = ap (λ x. x ++ []) (sym (append-nil s))
joined_with-interleaved mark (s ∷ (t ∷ ss)) = ap (λ xs. s ++ (mark ++ xs)) (joined_with-interleaved mark (t ∷ ss)) ∙ sym (append_assoc s mark (concat (marked_segments mark (t ∷ ss))))

-- a word with marks at places that ascend on it
pub word_in_parts : (mark word places : List ℕ) → JoinsToText → JoinsToMarkedText → Fits word (map plain_break places) → IsPageWithMarks mark word (with_marks mark word places)
word_in_parts mark word places join joins fit = (
  interleaved (segments word (map plain_break places)),
  without_marks-interleaved (segments word (map plain_break places)) ∙ join word places fit,
  joined_with-interleaved mark (segments word (map plain_break places)) ∙ joins mark word places fit,
)

pub joined : {mark a b pa pb oa ob : List ℕ} → IsMarked mark a pa oa → IsMarked mark b pb ob → IsMarked mark (a ++ b) (pa ++ shifted (length a) pb) (oa ++ ob)
joined {mark} {a} {b} {pa} {pb} {oa} {ob} x y = record {
  is = ap (λ xs. xs ++ ob) x.is ∙ ap (λ ys. with_marks mark a pa ++ ys) y.is ∙ sym (marks_join mark a b pa pb x.within);
  within = within_join a b pa pb x.within y.within;
  parts = parts_join mark a b oa ob x.parts y.parts;
}
