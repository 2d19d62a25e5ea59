-- Appending the marked segments of a word, break by break.
use Rattle.std.proofs.Common.{◌≡◌, ℕ, ◌+◌, ◌-◌, ◌≤◌, List, [], ◌∷◌, ◌++◌, map, length, take, drop, refl, sym, ap, subst, ◌∙◌, arith, append_assoc, append-nil, add-zero, add-one, get_or, suc, ◌<◌, IsCharBoundary, IsUtf8}
use Rattle.std.specs.List.{concat, slice_range, slice_index}
use Rattle.std.proofs.Math.Seq.{drop-cons}
use Rattle.std.proofs.lemmas.Str.{IsCharBoundary-start, IsCharBoundary-from_take}
use Rattle.std.specs.Io.{StartsWith}
use Rattle.hyphenation_breaks.specs.Break.{Break, plain_break, begin_of, end_of, before_of, after_of}
use Rattle.hyphenation_segments.specs.Fits.{BreakFitsAfter, FitsFrom, Fits}
use Rattle.hyphenation_segments.specs.Segments.{segments_after, marked_segments, mark_if_more, through_break}
use Rattle.hyphenation_segments.proofs.SegmentsJoin.{more_come, last_segment}
use Rattle.hyphenation_segments.proofs.SegmentSteps.{fits_earlier}

-- The marked segments after a place, joined, where the second half before the place is appended already.
abbrev pub to_append : List ℕ → List ℕ → ℕ → List Break → List ℕ
to_append mark text start breaks = concat (marked_segments mark (segments_after text (plain_break start) breaks))

-- The breaks to come fit after the place.
abbrev pub FitFrom : List ℕ → ℕ → List Break → Type 0
FitFrom text start breaks = IsCharBoundary text start × FitsFrom text start 0 breaks

-- After a break its second half comes first.
half_first : (mark text : List ℕ) (b : Break) (bs : List Break) → concat (marked_segments mark (segments_after text b bs)) ≡ after_of b.change ++ to_append mark text (end_of b) bs
half_first mark text b [] =
    rw (add-zero (end_of b), append_assoc (after_of b.change) (slice_range text (end_of b) (length text - 0)) []) (tidy (after_of b.change) (slice_range text (end_of b) (length text - 0)))
  where
    tidy : (x y : List ℕ) → ((x ++ (y ++ [])) ++ []) ++ [] ≡ x ++ (((y ++ []) ++ []) ++ [])
    tidy x y = rw (append-nil y, append-nil (x ++ y), append-nil (x ++ y), append-nil y, append-nil y) refl
half_first mark text b (d ∷ bs) =
    let front : List ℕ = slice_range text (end_of b) (begin_of d) in
    rw (add-zero (end_of b)) (tidy (after_of b.change) front (before_of d.change) (mark_if_more mark (segments_after text d bs)) (concat (marked_segments mark (segments_after text d bs))))
  where
    tidy : (x y z m r : List ℕ) → (((x ++ y) ++ z) ++ m) ++ r ≡ x ++ (((y ++ z) ++ m) ++ r)
    tidy x y z m r =
        ap (λ (l : List ℕ). (l ++ m) ++ r) (append_assoc x y z) ∙ ap (λ (l : List ℕ). l ++ r) (append_assoc x (y ++ z) m) ∙ append_assoc x ((y ++ z) ++ m) r

pub one_break : (mark text : List ℕ) (start : ℕ) (b : Break) (bs : List Break) →
    to_append mark text start (b ∷ bs) ≡ (slice_range text start (begin_of b) ++ before_of b.change ++ mark ++ after_of b.change) ++ to_append mark text (end_of b) bs
one_break mark text start b bs =
    rw (add-zero start, more_come mark text b bs, half_first mark text b bs)
    (sym (append_assoc (slice_range text start (begin_of b) ++ before_of b.change ++ mark) (after_of b.change) (to_append mark text (end_of b) bs)))

pub first_fits : (text : List ℕ) (start : ℕ) (b : Break) (bs : List Break) → FitFrom text start (b ∷ bs) → BreakFitsAfter text start 0 b
first_fits text start b bs h = h.1.0

pub rest_fit : (text : List ℕ) (start : ℕ) (b : Break) (bs : List Break) → FitFrom text start (b ∷ bs) → FitFrom text (end_of b) bs
rest_fit text start b bs h = (h.1.0.end, fits_earlier text (end_of b) (b.place + 1) (end_of b) 0 bs (omega arith) (omega arith) h.1.1)

pub nothing_left : (mark text : List ℕ) (start : ℕ) → start ≤ length text → to_append mark text start [] ≡ drop start text
nothing_left mark text start h = last_segment mark text start h

-- The items of a list from an index on: the item there, and those after it.
pub from_here : {X : Type 0} (xs : List X) (i : ℕ) (x : X) → i < length xs → x ≡ get_or xs i x → drop i xs ≡ x ∷ drop (i + 1) xs
from_here {X} xs i x lt is = rw (add-one i) (drop-cons xs i x lt ∙ ap (λ (y : X). y ∷ drop (suc i) xs) (sym is))

-- The text that a break appends, before the text of the later breaks.
pub one_more : {X : Type 0} (meaning : X → Break) (mark text whole before after : List ℕ) (start end i : ℕ) (xs : List X) (x : X) → i < length xs → x ≡ get_or xs i x
    → (before ++ to_append mark text start (map meaning (drop i xs)) ≡ whole) × FitFrom text start (map meaning (drop i xs))
    → after ≡ before ++ through_break mark text start (meaning x) → end ≡ end_of (meaning x)
    → (after ++ to_append mark text end (map meaning (drop (i + 1) xs)) ≡ whole) × FitFrom text end (map meaning (drop (i + 1) xs))
one_more {X} meaning mark text whole before after start end i xs x lt is inv push at =
    let bs : List Break = map meaning (drop (i + 1) xs) in
    let here : map meaning (drop i xs) ≡ meaning x ∷ bs = ap (map meaning) (from_here xs i x lt is) in
    let now = subst (λ (l : List Break). (before ++ to_append mark text start l ≡ whole) × FitFrom text start l) here inv in
    let piece : List ℕ = through_break mark text start (meaning x) in
    let done : (before ++ piece) ++ to_append mark text (end_of (meaning x)) bs ≡ whole =
    append_assoc before piece (to_append mark text (end_of (meaning x)) bs) ∙ ap (λ (l : List ℕ). before ++ l) (sym (one_break mark text start (meaning x) bs)) ∙ now.0 in (
      ap (λ (n : ℕ). after ++ to_append mark text n bs) at ∙ ap (λ (l : List ℕ). l ++ to_append mark text (end_of (meaning x)) bs) push ∙ done,
      subst (λ (n : ℕ). FitFrom text n bs) (sym at) (rest_fit text start (meaning x) bs now.1),
    )

pub at_first : (text : List ℕ) (breaks : List Break) → IsUtf8 text → Fits text breaks → FitFrom text 0 breaks
at_first text breaks u h = (IsCharBoundary-start text u, h)

pub break_at_fits : {X : Type 0} (meaning : X → Break) (text : List ℕ) (start i : ℕ) (xs : List X) (x : X) → i < length xs → x ≡ get_or xs i x → FitFrom text start (map meaning (drop i xs)) → BreakFitsAfter text start 0 (meaning x)
break_at_fits {X} meaning text start i xs x lt is h =
    first_fits text start (meaning x) (map meaning (drop (i + 1) xs)) (subst (λ (l : List Break). FitFrom text start l) (ap (map meaning) (from_here xs i x lt is)) h)

-- A text that begins with another one can be cut back to it.
pub cut_back : (now before : List ℕ) (n : ℕ) → IsUtf8 now → IsUtf8 before → StartsWith now before → n ≡ length before → n ≤ length now → (n ≤ length now) × (0 < n → n < length now → 128 ≤ slice_index now n → 192 ≤ slice_index now n)
cut_back now before n u v front is within =
    let boundary : IsCharBoundary now n = IsCharBoundary-from_take now n u within (subst IsUtf8 (sym (ap (λ (k : ℕ). take k now) is ∙ front)) v) in
    (within, λ _. boundary.1)
