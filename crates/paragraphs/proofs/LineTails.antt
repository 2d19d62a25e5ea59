-- Lines as lists of parts: the columns and the text after the opening.
use Rattle.std.proofs.Common.{◌≡◌, ℕ, zero, suc, ◌+◌, ◌-◌, ◌<◌, ◌≤◌, List, [], ◌∷◌, ◌++◌, length, take, sym, ap, refl, ◌∙◌, arith, append_assoc, append-nil, zero-add}
use Rattle.std.specs.List.{flat_map, sum_by, slice_range}
use Rattle.std.proofs.lemmas.List.Sums.{sum_by-cons}
use Rattle.line_division.specs.declared.stretch.Stretch.{Stretch}
use Rattle.line_division.specs.Lines.{stretch_at, joined_width, line_width}
use Rattle.paragraphs.specs.Private.FullLines.{tail_width}
use Rattle.paragraphs.specs.Settings.{Setting, setting_at, shown_text, last_text, line_text}

abbrev pub tail_text : List Setting → List ℕ
tail_text [] = []
tail_text (p ∷ []) = last_text p
tail_text (p ∷ q ∷ ps) = shown_text p ++ tail_text (q ∷ ps)

pub tail_text_append : (g h : List Setting) → 0 < length h → tail_text (g ++ h) ≡ flat_map shown_text g ++ tail_text h
tail_text_append [] h some = refl
tail_text_append (p ∷ []) [] some = absurd (omega (arith, some))
tail_text_append (p ∷ []) (q ∷ h) some = sym (ap (λ s. s ++ tail_text (q ∷ h)) (append-nil (shown_text p)))
tail_text_append (p ∷ q ∷ g) h some =
    ap (λ s. shown_text p ++ s) (tail_text_append (q ∷ g) h some) ∙ sym (append_assoc (shown_text p) (flat_map shown_text (q ∷ g)) (tail_text h))

pub tail_width_append : (g h : List Stretch) → 0 < length h → tail_width (g ++ h) ≡ sum_by joined_width g + tail_width h
tail_width_append [] h some = sym (zero-add (tail_width h))
tail_width_append (s ∷ []) [] some = absurd (omega (arith, some))
tail_width_append (s ∷ []) (t ∷ h) some = ap (λ n. n + tail_width (t ∷ h)) (sym (zero-add (joined_width s)))
tail_width_append (s ∷ t ∷ g) h some =
    let rest = tail_width_append (t ∷ g) h some in
    let first = sum_by-cons joined_width s (t ∷ g) in
    let all : joined_width s + tail_width (t ∷ g ++ h) ≡ sum_by joined_width (s ∷ t ∷ g) + tail_width h = omega (arith, rest, first) in
    all

text_taken : (ps : List Setting) (n : ℕ) → n < length ps → flat_map shown_text (take n ps) ++ last_text (setting_at ps n) ≡ tail_text (take (suc n) ps)
text_taken [] n lt = absurd (omega (arith, lt))
text_taken (p ∷ ps) zero lt = refl
text_taken (p ∷ []) (suc n) lt = absurd (omega (arith, lt))
text_taken (p ∷ q ∷ ps) (suc n) lt =
    append_assoc (shown_text p) (flat_map shown_text (take n (q ∷ ps))) (last_text (setting_at (q ∷ ps) n))
    ∙ ap (λ s. shown_text p ++ s) (text_taken (q ∷ ps) n (omega (arith, lt)))

width_taken : (ss : List Stretch) (n : ℕ) → n < length ss → sum_by joined_width (take n ss) + (stretch_at ss n).width + (stretch_at ss n).closing ≡ tail_width (take (suc n) ss)
width_taken [] n lt = absurd (omega (arith, lt))
width_taken (s ∷ ss) zero lt = ap (λ n. n + s.closing) (zero-add s.width)
width_taken (s ∷ []) (suc n) lt = absurd (omega (arith, lt))
width_taken (s ∷ t ∷ ss) (suc n) lt =
    let rest = width_taken (t ∷ ss) n (omega (arith, lt)) in
    omega (arith, rest, sum_by-cons joined_width s (take n (t ∷ ss)))

-- The line to an end.
pub line_text_tail : (ps : List Setting) (n : ℕ) → 0 < n → n ≤ length ps → line_text ps 0 n ≡ (setting_at ps 0).opening ++ tail_text (take n ps)
line_text_tail ps zero some within = absurd (omega (arith, some))
line_text_tail ps (suc n) some within =
    let count : suc n - 1 ≡ n = omega arith in
    let none : n - 0 ≡ n = omega arith in
    append_assoc (setting_at ps 0).opening (flat_map shown_text (slice_range ps 0 (suc n - 1))) (last_text (setting_at ps (suc n - 1)))
    ∙ ap (λ k. (setting_at ps 0).opening ++ (flat_map shown_text (slice_range ps 0 k) ++ last_text (setting_at ps k))) count
    ∙ ap (λ k. (setting_at ps 0).opening ++ (flat_map shown_text (take k ps) ++ last_text (setting_at ps n))) none
    ∙ ap (λ s. (setting_at ps 0).opening ++ s) (text_taken ps n (omega (arith, within)))

pub line_width_tail : (ss : List Stretch) (n : ℕ) → 0 < n → n ≤ length ss → line_width ss 0 n ≡ (stretch_at ss 0).opening + tail_width (take n ss)
line_width_tail ss zero some within = absurd (omega (arith, some))
line_width_tail ss (suc n) some within =
    let count : suc n - 1 ≡ n = omega arith in
    let none : n - 0 ≡ n = omega arith in
    let joined : sum_by joined_width (slice_range ss 0 (suc n - 1)) ≡ sum_by joined_width (take n ss) = ap (λ k. sum_by joined_width (slice_range ss 0 k)) count ∙ ap (λ k. sum_by joined_width (take k ss)) none in
    let last : stretch_at ss (suc n - 1) ≡ stretch_at ss n = ap (stretch_at ss) count in
    omega (arith, width_taken ss n (omega (arith, within)), joined, ap (λ s. s.width) last, ap (λ s. s.closing) last)
