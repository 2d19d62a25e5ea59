-- The lines of a text, and the words in them.
use Rattle.std.proofs.Common.{◌≡◌, ℕ, ◌&&◌, lit<, true, false, not, cond, List, [], ◌∷◌, ◌++◌, length, get_or, chars, encode_utf8, sym, ap, subst, refl, ◌∙◌, arith, inl, inr, append_assoc, append-nil}
use Rattle.std.specs.List.{All, list_all, flat_map, onto_first}
use Rattle.std.specs.Str.{IsUtf8, encode_utf8_all, all_scalars}
use Rattle.std.proofs.lemmas.Bool.{and_parts, cases_eq, ne_eqb, eqb-true}
use Rattle.std.proofs.lemmas.List.Elements.{All-nil, All-cons, All-head, All-tail, All-append, All-push, All-same, All-from_get_or}
use Rattle.std.proofs.lemmas.List.Splits.{slice_split-cons_no}
use Rattle.std.proofs.lemmas.Str.{chars-append, IsUtf8-encode, chars-encodes, chars-nil, scalars-chars, encodes-chars, encode_ascii, inside_one}
use Rattle.paragraphs.specs.Words.{is_gap, if_any, words_after, words}
use Rattle.paragraphs.proofs.WordLists.{some_any}
use Rattle.paragraphs.specs.Paragraphs.{is_line_feed, lines_of, is_blank, ended, gather, IsTextLine, IsParagraph}

-- ---- each line of a text is one line

abbrev pub is_one_line : List ℕ → Type 0
is_one_line line = list_all (λ b. not (is_line_feed b)) line ≡ true

one_more : (x : ℕ) (lines : List (List ℕ)) → is_line_feed x ≡ false → All is_one_line lines → All is_one_line (onto_first x lines)
one_more x [] other all = All-cons is_one_line (x ∷ []) [] (ap (λ t. not t && true) other) (All-nil is_one_line)
one_more x (line ∷ lines) other all =
    All-cons is_one_line (x ∷ line) lines (ap (λ t. not t && list_all (λ b. not (is_line_feed b)) line) other ∙ All-head is_one_line line lines all) (All-tail is_one_line line lines all)

pub lines_are_lines : (text : List ℕ) → All is_one_line (lines_of text)
lines_are_lines [] = All-cons is_one_line [] [] refl (All-nil is_one_line)
lines_are_lines (b ∷ text) =
    elim (is_line_feed b) as (λ t. is_line_feed b ≡ t → All is_one_line (cond t ([] ∷ lines_of text) (onto_first b (lines_of text)))) [
      | true ↦ λ _. All-cons is_one_line [] (lines_of text) refl (lines_are_lines text)
      | false ↦ λ other. one_more b (lines_of text) other (lines_are_lines text)
    ] refl

-- ---- paragraphs are made of lines

flat-push : (made : List (List ℕ)) (line : List ℕ) → flat_map ended (made ++ line ∷ []) ≡ flat_map ended made ++ ended line
flat-push [] line = append-nil (ended line)
flat-push (first ∷ made) line = ap (λ s. ended first ++ s) (flat-push made line) ∙ sym (append_assoc (ended first) (flat_map ended made) (ended line))

any_paragraph : (gathered : List ℕ) (made : List (List ℕ)) → All IsTextLine made → gathered ≡ flat_map ended made → All IsParagraph (if_any gathered)
any_paragraph [] made each whole = All-nil IsParagraph
any_paragraph (b ∷ bs) [] each whole = absurd (omega (arith, ap length whole))
any_paragraph (b ∷ bs) (line ∷ made) each whole =
    All-same IsParagraph (if_any (b ∷ bs)) ((b ∷ bs) ∷ []) (some_any (b ∷ bs) (omega arith))
    (All-cons IsParagraph (b ∷ bs) [] record { lines = line ∷ made; some = omega arith; each = each; whole = whole } (All-nil IsParagraph))

pub gather_paragraphs : (gathered : List ℕ) (lines made : List (List ℕ)) → All is_one_line lines → All IsTextLine made → gathered ≡ flat_map ended made
    → All IsParagraph (gather gathered lines)
gather_paragraphs gathered [] made one each whole = any_paragraph gathered made each whole
gather_paragraphs gathered (line ∷ lines) made one each whole =
    let here = All-head is_one_line line lines one in
    let rest = All-tail is_one_line line lines one in
    elim (is_blank line) as (λ t. is_blank line ≡ t → All IsParagraph (cond t (if_any gathered ++ gather [] lines) (gather (gathered ++ ended line) lines))) [
      | true ↦ λ _. All-append IsParagraph (if_any gathered) (gather [] lines) (any_paragraph gathered made each whole) (gather_paragraphs [] lines [] rest (All-nil IsTextLine) refl)
      | false ↦ λ worded.
          gather_paragraphs (gathered ++ ended line) lines (made ++ line ∷ []) rest
          (All-push IsTextLine made line each record { one = here; worded = worded })
          (ap (λ s. s ++ ended line) whole ∙ sym (flat-push made line))
    ] refl

-- ---- the words of all lines are the words of the text

abbrev first_of : List (List ℕ) → List ℕ
first_of [] = []
first_of (line ∷ lines) = line

abbrev others_of : List (List ℕ) → List (List ℕ)
others_of [] = []
others_of (line ∷ lines) = lines

onto_some : (x : ℕ) (lines : List (List ℕ)) → onto_first x lines ≡ first_of (onto_first x lines) ∷ others_of (onto_first x lines)
onto_some x [] = refl
onto_some x (line ∷ lines) = refl

lines_some : (text : List ℕ) → lines_of text ≡ first_of (lines_of text) ∷ others_of (lines_of text)
lines_some [] = refl
lines_some (b ∷ text) =
    elim (is_line_feed b) as (λ t. cond t ([] ∷ lines_of text) (onto_first b (lines_of text))
    ≡ first_of (cond t ([] ∷ lines_of text) (onto_first b (lines_of text))) ∷ others_of (cond t ([] ∷ lines_of text) (onto_first b (lines_of text)))) [
      | true ↦ refl
      | false ↦ onto_some b (lines_of text)
    ]

-- A text without line feeds goes before the first line of what follows.
lines_onto : (xs ys : List ℕ) → All (λ b. is_line_feed b ≡ false) xs → lines_of (xs ++ ys) ≡ (xs ++ first_of (lines_of ys)) ∷ others_of (lines_of ys)
lines_onto [] ys none = lines_some ys
lines_onto (x ∷ xs) ys none =
    slice_split-cons_no is_line_feed x (xs ++ ys) (All-head (λ b. is_line_feed b ≡ false) x xs none)
    ∙ ap (onto_first x) (lines_onto xs ys (All-tail (λ b. is_line_feed b ≡ false) x xs none))

-- Another character has no line feed among its bytes.
encode_one_line : (c : ℕ) → is_line_feed c ≡ false → All (λ b. is_line_feed b ≡ false) (encode_utf8 c)
encode_one_line c other = All-from_get_or (λ b. is_line_feed b ≡ false) (encode_utf8 c) 0 (λ i lt.
    elim (cases_eq (get_or (encode_utf8 c) i 0) 10) [
      | inl same ↦
          let is : c ≡ 10 = inside_one c [] (encode_utf8 c) i (sym (append-nil (encode_utf8 c))) lt (omega (arith, same)) ∙ same in
          ap is_line_feed same ∙ ap is_line_feed (sym is) ∙ other
      | inr unlike ↦ ne_eqb (get_or (encode_utf8 c) i 0) 10 unlike
    ])

-- The words of lines, where a beginning of the first word is before them.
abbrev words_in : List ℕ → List (List ℕ) → List (List ℕ)
words_in begun lines = words_after begun (chars (first_of lines)) ++ flat_map words (others_of lines)

words_in_some : (lines : List (List ℕ)) (text : List ℕ) → lines ≡ lines_of text → words_in [] lines ≡ flat_map words lines
words_in_some lines text is =
    let some : lines ≡ first_of lines ∷ others_of lines = is ∙ lines_some text ∙ ap (λ s. first_of s ∷ others_of s) (sym is) in
    sym (ap (flat_map words) some)

words_at_feed : (begun cs rest : List ℕ) → words_after [] cs ≡ flat_map words (lines_of rest)
    → words_after begun (10 ∷ cs) ≡ words_in begun (lines_of (encode_utf8 10 ++ rest))
words_at_feed begun cs rest same =
    ap (λ s. if_any begun ++ s) same
    ∙ ap (λ none. words_after begun none ++ flat_map words (lines_of rest)) (sym chars-nil)
    ∙ ap (λ xs. words_in begun (lines_of (xs ++ rest))) (sym (encode_ascii 10 (lit< tt)))

words_of_lines_after : (begun cs : List ℕ) → all_scalars cs ≡ true → words_after begun cs ≡ words_in begun (lines_of (encode_utf8_all cs))
words_of_lines_after begun [] all = ap (words_after begun) (sym chars-nil) ∙ sym (append-nil (words_after begun (chars [])))
words_of_lines_after begun (c ∷ cs) all =
    let both = and_parts _ (all_scalars cs) all in
    let rest = encode_utf8_all cs in
    let first = first_of (lines_of rest) in
    let others = flat_map words (others_of (lines_of rest)) in
    elim (is_line_feed c) as (λ t. is_line_feed c ≡ t → words_after begun (c ∷ cs) ≡ words_in begun (lines_of (encode_utf8 c ++ rest))) [
      | true ↦ λ feed.
          let is : c ≡ 10 = eqb-true c 10 feed in
          subst (λ d. words_after begun (d ∷ cs) ≡ words_in begun (lines_of (encode_utf8 d ++ rest))) (sym is)
          (words_at_feed begun cs rest (words_of_lines_after [] cs both.1 ∙ words_in_some (lines_of rest) rest refl))
      | false ↦ λ other.
          let letter : chars (encode_utf8 c) ≡ c ∷ [] = ap chars (sym (append-nil (encode_utf8 c))) ∙ chars-encodes (c ∷ []) (ap (λ t. t && true) both.0) in
          let line : chars (encode_utf8 c ++ first) ≡ c ∷ chars first = chars-append (encode_utf8 c) first (IsUtf8-encode c both.0) ∙ ap (λ s. s ++ chars first) letter in
          let split = lines_onto (encode_utf8 c) rest (encode_one_line c other) in
          let on = words_after (begun ++ encode_utf8 c) in
          let here : words_after begun (c ∷ cs) ≡ words_after begun (c ∷ chars first) ++ others =
          elim (is_gap c) as (λ t. cond t (if_any begun ++ words_after [] cs) (on cs) ≡ cond t (if_any begun ++ words_after [] (chars first)) (on (chars first)) ++ others) [
            | true ↦ ap (λ s. if_any begun ++ s) (words_of_lines_after [] cs both.1) ∙ sym (append_assoc (if_any begun) (words_after [] (chars first)) others)
            | false ↦ words_of_lines_after (begun ++ encode_utf8 c) cs both.1
          ] in
          here ∙ ap (λ ds. words_after begun ds ++ others) (sym line) ∙ ap (words_in begun) (sym split)
    ] refl

pub words_of_lines : (text : List ℕ) → IsUtf8 text → flat_map words (lines_of text) ≡ words text
words_of_lines text u =
    sym (words_of_lines_after [] (chars text) (scalars-chars text u) ∙ ap (λ t. words_in [] (lines_of t)) (encodes-chars text u) ∙ words_in_some (lines_of text) text refl)
