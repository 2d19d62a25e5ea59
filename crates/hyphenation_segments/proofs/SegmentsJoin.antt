-- Segments by their neighbours, and what they join to.
use Rattle.std.proofs.Common.{◌≡◌, ℕ, ◌+◌, ◌-◌, ◌≤◌, zero, suc, List, [], ◌∷◌, ◌++◌, map, length, take, drop, refl, sym, ap, subst, ◌∙◌, arith, append_assoc, append-nil, add-zero, add-one, Some, slice_get}
use Rattle.std.specs.List.{concat, slice_range}
use Rattle.std.proofs.Math.Nat.{sub-zero}
use Rattle.std.proofs.lemmas.List.{drop_all, drop-append-le, drop-take, length-take-le}
use Rattle.std.proofs.lemmas.List.Folds.{drop_split}
use Rattle.hyphenation_breaks.specs.Break.{Break, plain_break}
use Rattle.hyphenation_segments.specs.Fits.{FitsFrom}
use Rattle.hyphenation_segments.specs.Segments.{segment_between, segments_after, mark_if_more, marked_segments}
use Rattle.hyphenation_segments.specs.Laws.{break_number, with_marks}

step : (text : List ℕ) (last : Break) (breaks : List Break) (number : ℕ) → number ≤ length breaks →
    slice_get (segments_after text last breaks) number
    ≡ Some (segment_between text (break_number (last ∷ (breaks ++ plain_break (length text) ∷ [])) number) (break_number (last ∷ (breaks ++ plain_break (length text) ∷ [])) (suc number)))
step text last [] zero h = refl
step text last [] (suc i) h = absurd (omega (arith, h))
step text last (b ∷ bs) zero h = refl
step text last (b ∷ bs) (suc i) h = step text b bs i (omega (arith, h))

pub neighbours : (text : List ℕ) (last : Break) (breaks : List Break) (number : ℕ) → number ≤ length breaks →
    slice_get (segments_after text last breaks) number
    ≡ Some (segment_between text (break_number (last ∷ (breaks ++ plain_break (length text) ∷ [])) number) (break_number (last ∷ (breaks ++ plain_break (length text) ∷ [])) (number + 1)))
neighbours text last breaks number h = rw (add-one number) (step text last breaks number h)

-- The segment between plain breaks is a slice of the text.
plain_segment : (text : List ℕ) (a b : ℕ) → segment_between text (plain_break a) (plain_break b) ≡ slice_range text a b
plain_segment text a b = rw (add-zero a, sub-zero b, append-nil (take (b - a) (drop a text))) refl

rest_is : (text : List ℕ) (a : ℕ) → a ≤ length text → slice_range text a (length text) ≡ drop a text
rest_is text a h =
    let none : drop (length text) text ≡ [] = drop_all (length text) text (omega arith) in
    sym (drop_split text a (length text) h ∙ ap (λ l. slice_range text a (length text) ++ l) none ∙ append-nil (slice_range text a (length text)))

after : (a p : ℕ) → a ≤ p - 0 → a ≤ p
after a p h = omega (arith, h)

pub joined : (text : List ℕ) (a least : ℕ) (places : List ℕ) → a ≤ length text → FitsFrom text a least (map plain_break places) →
    concat (segments_after text (plain_break a) (map plain_break places)) ≡ drop a text
joined text a least [] h f =
    append-nil (segment_between text (plain_break a) (plain_break (length text))) ∙ plain_segment text a (length text) ∙ rest_is text a h
joined text a least (p ∷ ps) h f =
    let in_text : p ≤ length text = f.0.place.0 in
    let ascends : a ≤ p = after a p f.0.apart in
    let rest : concat (segments_after text (plain_break p) (map plain_break ps)) ≡ drop p text = joined text p (p + 1) ps in_text (subst (λ n. FitsFrom text n (p + 1) (map plain_break ps)) (add-zero p) f.1) in
    rw (plain_segment text a p, rest) (sym (drop_split text a p ascends))

pub more_come : (mark text : List ℕ) (last : Break) (breaks : List Break) → mark_if_more mark (segments_after text last breaks) ≡ mark
more_come mark text last [] = refl
more_come mark text last (b ∷ bs) = refl

pub marked_joined : (mark text : List ℕ) (a least : ℕ) (places : List ℕ) → a ≤ length text → FitsFrom text a least (map plain_break places) →
    concat (marked_segments mark (segments_after text (plain_break a) (map plain_break places))) ≡ drop a (with_marks mark text places)
marked_joined mark text a least [] h f =
    append-nil (segment_between text (plain_break a) (plain_break (length text)) ++ []) ∙ append-nil (segment_between text (plain_break a) (plain_break (length text))) ∙ plain_segment text a (length text) ∙ rest_is text a h
marked_joined mark text a least (p ∷ ps) h f =
    let in_text : p ≤ length text = f.0.place.0 in
    let ascends : a ≤ p = after a p f.0.apart in
    let fit : FitsFrom text p (p + 1) (map plain_break ps) = subst (λ n. FitsFrom text n (p + 1) (map plain_break ps)) (add-zero p) f.1 in
    let later = drop p (with_marks mark text ps) in
    let rest : concat (marked_segments mark (segments_after text (plain_break p) (map plain_break ps))) ≡ later = marked_joined mark text p (p + 1) ps in_text fit in
    let size : length (take p text) ≡ p = length-take-le p text in_text in
    let sum : a + (p - a) ≡ p = omega (arith, ascends) in
    let front : drop a (take p text) ≡ slice_range text a p = subst (λ n. drop a (take n text) ≡ slice_range text a p) sum (drop-take a (p - a) text) in
    let right : drop a (take p text ++ mark ++ later) ≡ slice_range text a p ++ mark ++ later =
    ap (drop a) (append_assoc (take p text) mark later) ∙ drop-append-le a (take p text) (mark ++ later) (omega (arith, size, ascends)) ∙ ap (λ l. l ++ (mark ++ later)) front ∙ sym (append_assoc (slice_range text a p) mark later) in
    rw (plain_segment text a p, more_come mark text (plain_break p) (map plain_break ps), rest) (sym right)

pub last_segment : (mark text : List ℕ) (a : ℕ) → a ≤ length text → concat (marked_segments mark (segments_after text (plain_break a) [])) ≡ drop a text
last_segment mark text a h =
    append-nil (segment_between text (plain_break a) (plain_break (length text)) ++ []) ∙ append-nil (segment_between text (plain_break a) (plain_break (length text))) ∙ plain_segment text a (length text) ∙ rest_is text a h
