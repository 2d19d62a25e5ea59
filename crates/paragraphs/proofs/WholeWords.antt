-- A word of printable ASCII that fits whole is as its parts, wherever it may be broken.
use Rattle.std.proofs.Common.{◌≡◌, ℕ, ◌+◌, ◌-◌, ◌<◌, ◌≤◌, true, false, cond, nat_lt, List, [], ◌∷◌, ◌++◌, length, map, take, drop, slice_range, sym, ap, subst, refl, ◌∙◌, inl, inr, arith, append_assoc, append-nil, length-append, length-drop}
use Rattle.std.specs.List.{list_all, flat_map, sum_by}
use Rattle.std.proofs.lemmas.Bool.{and_parts, ltb-true, cases_lt}
use Rattle.std.proofs.lemmas.List.{length-take, length-map, map-append, take-map, get_or_append_left, drop-drop, drop_at}
use Rattle.std.proofs.lemmas.List.Folds.{drop_split}
use Rattle.std.proofs.lemmas.List.Sums.{sum_by-cons}
use Rattle.hyphenation_breaks.specs.Break.{Break, begin_of, end_of, after_of}
use Rattle.line_division.specs.Greedy.{IsFurthest}
use Rattle.line_division.specs.Lines.{no_stretch, stretch_at, joined_width, line_width}
use Rattle.paragraphs.specs.Settings.{Setting, no_setting, setting_at, stretch_of, shown, shown_text, columns_of, line_text}
use Rattle.paragraphs.specs.Parts.{Style, parts_it, part_at, parts_from, word_parts, word_breaks}
use Rattle.paragraphs.specs.Private.FullLines.{AreFull, tail_width}
use Rattle.paragraphs.specs.Private.Printable.{is_printable}
use Rattle.paragraphs.proofs.FullLines.{take_past}
use Rattle.paragraphs.proofs.LineTails.{tail_text, tail_text_append, tail_width_append, line_text_tail, line_width_tail}
use Rattle.paragraphs.proofs.Printable.{printable_columns, printable_shown, printable_columns_shown, printable_drop, printable_between}

-- The rest of a word from a place, as the last part of it.
abbrev pub rest_of : List ℕ → List ℕ → ℕ → Setting
rest_of word opening from = record { opening = opening; text = drop from word; joint = 32 ∷ []; closing = []; price = 0 }

-- A part of a word, and the rest of it, before other parts.
parted_width : (here last whole : Setting) (others : List Setting) → last.closing ≡ whole.closing → last.joint ≡ whole.joint
    → columns_of (shown whole.text) ≡ joined_width (stretch_of here) + columns_of (shown last.text)
    → tail_width (map stretch_of (whole ∷ others)) ≡ joined_width (stretch_of here) + tail_width (map stretch_of (last ∷ others))
parted_width here last whole [] closing joint wide = omega (arith, wide, ap columns_of closing)
parted_width here last whole (p ∷ ps) closing joint wide = omega (arith, wide, ap (λ j. columns_of (shown j)) joint)

parted_text : (here last whole : Setting) (others : List Setting) → last.closing ≡ whole.closing → last.joint ≡ whole.joint → shown whole.text ≡ shown_text here ++ shown last.text
    → tail_text (whole ∷ others) ≡ shown_text here ++ tail_text (last ∷ others)
parted_text here last whole [] closing joint texts =
    ap (λ s. s ++ whole.closing) texts ∙ append_assoc (shown_text here) (shown last.text) whole.closing ∙ ap (λ c. shown_text here ++ (shown last.text ++ c)) (sym closing)
parted_text here last whole (p ∷ ps) closing joint texts =
    ap (λ s. (s ++ shown whole.joint) ++ tail_text (p ∷ ps)) texts
    ∙ ap (λ j. ((shown_text here ++ shown last.text) ++ shown j) ++ tail_text (p ∷ ps)) (sym joint)
    ∙ ap (λ s. s ++ tail_text (p ∷ ps)) (append_assoc (shown_text here) (shown last.text) (shown last.joint))
    ∙ append_assoc (shown_text here) (shown_text last) (tail_text (p ∷ ps))

-- The opening of the last part is not in the tail of a line.
unopened_width : (word one other : List ℕ) (from : ℕ) (others : List Setting) → tail_width (map stretch_of (rest_of word one from ∷ others)) ≡ tail_width (map stretch_of (rest_of word other from ∷ others))
unopened_width word one other from [] = refl
unopened_width word one other from (p ∷ ps) = refl

unopened_text : (word one other : List ℕ) (from : ℕ) (others : List Setting) → tail_text (rest_of word one from ∷ others) ≡ tail_text (rest_of word other from ∷ others)
unopened_text word one other from [] = refl
unopened_text word one other from (p ∷ ps) = refl

-- A word has some parts, and no line is wider for the last one if it goes on after it.
pub narrow_parts : (style : Style) (word opening : List ℕ) (from : ℕ) (bs : List Break)
    → (0 < length (parts_from style word opening from bs))
    × (tail_width (map stretch_of (parts_from style word opening from bs)) ≤ sum_by joined_width (map stretch_of (parts_from style word opening from bs)))
narrow_parts style word opening from [] =
    (omega arith, omega (arith, printable_columns [] refl, sum_by-cons joined_width (stretch_of (rest_of word opening from)) []))
narrow_parts style word opening from (b ∷ bs) =
    let here : Setting = part_at style word opening from b in
    let rest = parts_from style word (style.indent ++ after_of b.change) (end_of b) bs in
    let later = narrow_parts style word (style.indent ++ after_of b.change) (end_of b) bs in
    elim (parts_it word from b) as (λ t. (0 < length (cond t (here ∷ rest) (parts_from style word opening from bs)))
    × (tail_width (map stretch_of (cond t (here ∷ rest) (parts_from style word opening from bs))) ≤ sum_by joined_width (map stretch_of (cond t (here ∷ rest) (parts_from style word opening from bs))))) [
      | true ↦
          let tail = tail_width_append (stretch_of here ∷ []) (map stretch_of rest) (omega (arith, later.0, length-map rest stretch_of)) in
          (omega arith, omega (arith, later.1, tail, sum_by-cons joined_width (stretch_of here) (map stretch_of rest), sum_by-cons joined_width (stretch_of here) []))
      | false ↦ narrow_parts style word opening from bs
    ]

length-between : (word : List ℕ) (a b : ℕ) → a ≤ b → b ≤ length word → length (slice_range word a b) ≡ b - a
length-between word a b le within = omega (arith, length-take (b - a) (drop a word), length-drop a word)

-- A part is as some parts before any others.
pub record IsAs (whole : Setting) (parts : List Setting) : Type 0 where
  pub width : (others : List Setting) → tail_width (map stretch_of (whole ∷ others)) ≡ tail_width (map stretch_of (parts ++ others))
  pub text : (others : List Setting) → tail_text (whole ∷ others) ≡ tail_text (parts ++ others)

whole_from : (style : Style) (word any opening : List ℕ) (from : ℕ) (bs : List Break) → list_all is_printable word ≡ true
    → IsAs (rest_of word any from) (parts_from style word opening from bs)
whole_from style word any opening from [] all = record { width = unopened_width word any opening from; text = unopened_text word any opening from }
whole_from style word any opening from (b ∷ bs) all =
    let begin = begin_of b in
    let end = end_of b in
    let here : Setting = part_at style word opening from b in
    let next = style.indent ++ after_of b.change in
    let rest = parts_from style word next end bs in
    let skipped = parts_from style word opening from bs in
    let whole = rest_of word any from in
    let last = rest_of word next end in
    elim (parts_it word from b) as (λ t. parts_it word from b ≡ t → IsAs whole (cond t (here ∷ rest) skipped)) [
      | true ↦ λ is.
          let both = and_parts (nat_lt from begin) (nat_lt end (length word)) is in
          let before : from < begin = ltb-true from begin both.0 in
          let inside : end < length word = ltb-true end (length word) both.1 in
          let order : begin ≤ end = omega arith in
          let later = whole_from style word next next end bs all in
          let first = slice_range word from begin in
          let second = slice_range word begin end in
          let parts : drop from word ≡ (first ++ second) ++ drop end word = drop_split word from begin (omega (arith, before)) ∙ ap (λ s. first ++ s) (drop_split word begin end order) ∙ sym (append_assoc first second (drop end word)) in
          let first_all = printable_between word from begin all in
          let second_all = printable_between word begin end all in
          let last_all = printable_drop word end all in
          let texts : shown (drop from word) ≡ shown_text here ++ shown (drop end word) =
          printable_shown (drop from word) (printable_drop word from all) ∙ parts
          ∙ ap (λ s. (s ++ second) ++ drop end word) (sym (printable_shown first first_all)) ∙ ap (λ s. (shown first ++ s) ++ drop end word) (sym (printable_shown second second_all)) ∙ ap (λ s. (shown first ++ shown second) ++ s) (sym (printable_shown (drop end word) last_all)) in
          let wide : columns_of (shown (drop from word)) ≡ joined_width (stretch_of here) + columns_of (shown (drop end word)) =
          omega (
            arith,
            before,
            order,
            inside,
            printable_columns_shown (drop from word) (printable_drop word from all),
            printable_columns_shown first first_all,
            printable_columns_shown second second_all,
            printable_columns_shown (drop end word) last_all,
            length-between word from begin (omega (arith, before)) (omega (arith, order, inside)),
            length-between word begin end order (omega (arith, inside)),
            length-drop from word,
            length-drop end word,
          ) in
          let some = (narrow_parts style word next end bs).0 in
          record {
            width = λ others.
                let tail : tail_width (map stretch_of (here ∷ rest ++ others)) ≡ sum_by joined_width (stretch_of here ∷ []) + tail_width (map stretch_of (rest ++ others)) =
                tail_width_append (stretch_of here ∷ []) (map stretch_of (rest ++ others)) (omega (arith, some, length-append rest others, length-map (rest ++ others) stretch_of)) in
                omega (arith, parted_width here last whole others refl refl wide, later.width others, tail, sum_by-cons joined_width (stretch_of here) []);
            text = λ others.
                parted_text here last whole others refl refl texts ∙ ap (λ s. shown_text here ++ s) (later.text others)
                ∙ ap (λ s. s ++ tail_text (rest ++ others)) (sym (append-nil (shown_text here)))
                ∙ sym (tail_text_append (here ∷ []) (rest ++ others) (omega (arith, some, length-append rest others)));
          }
      | false ↦ λ _. whole_from style word any opening from bs all
    ] refl

pub whole_word : (breaks_of : List ℕ → List Break) (style : Style) (any indent word : List ℕ) → list_all is_printable word ≡ true → IsAs (rest_of word any 0) (word_parts breaks_of style indent word)
whole_word breaks_of style any indent word all = whole_from style word any indent 0 (word_breaks breaks_of word) all

-- ---- lines that go past a word

drop_past : {X : Type 0} (xs ys : List X) (n : ℕ) → drop (length xs + n) (xs ++ ys) ≡ drop n ys
drop_past xs ys n = sym (drop-drop n (length xs) (xs ++ ys)) ∙ ap (drop n) (drop_at xs ys (length xs) refl)

-- A line that goes past begun parts, then some parts, and then this many of the others.
parts_past : (begun parts rest : List Setting) (k : ℕ) → take (length begun + (length parts + k)) (begun ++ (parts ++ rest)) ≡ begun ++ (parts ++ take k rest)
parts_past begun parts rest k = take_past begun (parts ++ rest) (length parts + k) ∙ ap (λ s. begun ++ s) (take_past parts rest k)

pub width_past_parts : (begun parts rest : List Setting) (k : ℕ) → 0 < length begun → 0 < length parts → k ≤ length rest
    → line_width (map stretch_of (begun ++ (parts ++ rest))) 0 (length begun + (length parts + k))
    ≡ (stretch_at (map stretch_of begun) 0).opening + (sum_by joined_width (map stretch_of begun) + tail_width (map stretch_of (parts ++ take k rest)))
width_past_parts begun parts rest k some some_parts short =
    let all = begun ++ (parts ++ rest) in
    let ss = map stretch_of begun in
    let n = length begun + (length parts + k) in
    let after = parts ++ take k rest in
    let tail = line_width_tail (map stretch_of all) n (omega (arith, some)) (omega (arith, short, length-map all stretch_of, length-append begun (parts ++ rest), length-append parts rest)) in
    let taken = ap tail_width (take-map stretch_of n all ∙ ap (map stretch_of) (parts_past begun parts rest k) ∙ map-append stretch_of begun after) in
    let parted = tail_width_append ss (map stretch_of after) (omega (arith, some_parts, length-map after stretch_of, length-append parts (take k rest))) in
    let first = ap (λ s. (stretch_at s 0).opening) (map-append stretch_of begun (parts ++ rest)) ∙ ap (λ s. s.opening) (get_or_append_left ss (map stretch_of (parts ++ rest)) no_stretch 0 (omega (arith, some, length-map begun stretch_of))) in
    omega (arith, tail, taken, parted, first)

text_past_parts : (begun parts rest : List Setting) (k : ℕ) → 0 < length begun → 0 < length parts → k ≤ length rest
    → line_text (begun ++ (parts ++ rest)) 0 (length begun + (length parts + k))
    ≡ (setting_at begun 0).opening ++ (flat_map shown_text begun ++ tail_text (parts ++ take k rest))
text_past_parts begun parts rest k some some_parts short =
    let all = begun ++ (parts ++ rest) in
    let n = length begun + (length parts + k) in
    line_text_tail all n (omega (arith, some)) (omega (arith, short, length-append begun (parts ++ rest), length-append parts rest))
    ∙ ap (λ t. (setting_at all 0).opening ++ tail_text t) (parts_past begun parts rest k)
    ∙ ap (λ t. (setting_at all 0).opening ++ t) (tail_text_append begun (parts ++ take k rest) (omega (arith, some_parts, length-append parts (take k rest))))
    ∙ ap (λ s. s.opening ++ (flat_map shown_text begun ++ tail_text (parts ++ take k rest))) (get_or_append_left begun (parts ++ rest) no_setting 0 some)

-- Where a word fits whole after begun parts, full lines with the word as one part are full lines with its parts.
pub full_with_parts : (columns : ℕ) (begun parts rest : List Setting) (whole : Setting) (later : List (List ℕ)) → 0 < length begun → 0 < length parts → IsAs whole parts
    → (stretch_at (map stretch_of begun) 0).opening + (sum_by joined_width (map stretch_of begun) + tail_width (stretch_of whole ∷ [])) ≤ columns
    → AreFull columns (begun ++ (whole ∷ rest)) later → AreFull columns (begun ++ (parts ++ rest)) later
full_with_parts columns begun parts rest whole [] some some_parts is fits full = absurd (omega (arith, some, ap length full, length-append begun (whole ∷ rest)))
full_with_parts columns begun parts rest whole (text ∷ texts) some some_parts is fits full =
    let n = full.0 in
    let far = full.1 in
    let one = whole ∷ [] in
    let coarse = map stretch_of (begun ++ (whole ∷ rest)) in
    let count : length coarse ≡ length begun + (1 + length rest) = omega (arith, length-map (begun ++ (whole ∷ rest)) stretch_of, length-append begun (whole ∷ rest)) in
    let single : length one ≡ 1 = refl in
    let wide : (k : ℕ) → k ≤ length rest → line_width (map stretch_of (begun ++ (parts ++ rest))) 0 (length begun + (length parts + k)) ≡ line_width coarse 0 (length begun + (1 + k)) =
    λ k short. width_past_parts begun parts rest k some some_parts short
    ∙ ap (λ t. (stretch_at (map stretch_of begun) 0).opening + (sum_by joined_width (map stretch_of begun) + t)) (sym (is.width (take k rest)))
    ∙ sym (width_past_parts begun one rest k some (omega arith) short) in
    let past_whole : length begun + 1 ≤ n =
    (let same = width_past_parts begun one rest 0 some (omega arith) (omega arith) in
    let place : length begun + (1 + 0) ≡ length begun + 1 = omega arith in
    far.furthest (length begun + 1) (omega arith) (omega (arith, count)) (omega (arith, fits, same, ap (line_width coarse 0) place))) in
    let k = n - (length begun + 1) in
    let inside = far.within in
    let short : k ≤ length rest = omega (arith, inside, count) in
    let place : length begun + (1 + k) ≡ n = omega (arith, past_whole) in
    let m = length begun + (length parts + k) in
    let fine : IsFurthest (map stretch_of (begun ++ (parts ++ rest))) columns 0 m = record {
      after = omega (arith, some);
      within = omega (arith, short, length-map (begun ++ (parts ++ rest)) stretch_of, length-append begun (parts ++ rest), length-append parts rest);
      stands = elim far.stands [
        | inl fit ↦ inl (omega (arith, fit, wide k short, ap (line_width coarse 0) place))
        | inr alone ↦ absurd (omega (arith, alone, past_whole, some))
      ];
      furthest = λ later past within fit. elim (cases_lt (length begun + length parts) later) [
        | inr among ↦ omega (arith, among)
        | inl beyond ↦
            let j = later - (length begun + length parts) in
            let there : length begun + (length parts + j) ≡ later = omega (arith, beyond) in
            let few : j ≤ length rest = omega (arith, beyond, within, length-map (begun ++ (parts ++ rest)) stretch_of, length-append begun (parts ++ rest), length-append parts rest) in
            let same = ap (line_width (map stretch_of (begun ++ (parts ++ rest))) 0) there in
            let up = far.furthest (length begun + (1 + j)) (omega arith) (omega (arith, few, count)) (omega (arith, fit, wide j few, same)) in
            omega (arith, up, there)
      ];
    } in
    let texts_same : text ≡ line_text (begun ++ (parts ++ rest)) 0 m =
    full.2 ∙ ap (line_text (begun ++ (whole ∷ rest)) 0) (sym place) ∙ text_past_parts begun one rest k some (omega arith) short
    ∙ ap (λ t. (setting_at begun 0).opening ++ (flat_map shown_text begun ++ t)) (is.text (take k rest)) ∙ sym (text_past_parts begun parts rest k some some_parts short) in
    let left : drop n (begun ++ (whole ∷ rest)) ≡ drop m (begun ++ (parts ++ rest)) =
    ap (λ p. drop p (begun ++ (whole ∷ rest))) (sym place) ∙ drop_past begun (whole ∷ rest) (1 + k) ∙ drop_past one rest k
    ∙ sym (drop_past begun (parts ++ rest) (length parts + k) ∙ drop_past parts rest k) in
    (m, fine, texts_same, subst (λ s. AreFull columns s texts) left full.3)
