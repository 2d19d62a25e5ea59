-- Parts that are made with plain breaks begin lines with one indent, but for the first.
use Rattle.std.proofs.Common.{◌≡◌, ℕ, zero, suc, ◌+◌, ◌<◌, true, false, cond, List, [], ◌∷◌, ◌++◌, length, map, ap, refl, ◌∙◌, arith, append-nil}
use Rattle.std.specs.List.{All, flat_map}
use Rattle.std.proofs.lemmas.List.{get_or-map, length-map}
use Rattle.std.proofs.lemmas.List.Elements.{All-head, All-tail}
use Rattle.unicode_segmentation.specs.Segments.{with_offsets}
use Rattle.composed_words.specs.Composed.{carried, composed, is_composed}
use Rattle.text_words.specs.Names.{is_name}
use Rattle.text_words.specs.Words.{is_mixed, text_words, unless_mixed}
use Rattle.hyphenation_breaks.specs.Break.{Break, end_of, after_of, plain_break}
use Rattle.line_division.specs.Greedy.{IsOrderly}
use Rattle.line_division.specs.Lines.{no_stretch, stretch_at}
use Rattle.paragraphs.specs.Settings.{Setting, no_setting, setting_at, stretch_of, columns_of}
use Rattle.paragraphs.specs.Parts.{Style, set_off, breaks_in, composed_breaks, piece_breaks, unchanged_places, word_breaks, parts_it, part_at, parts_from, word_parts, parts_of, IsPlain, ArePlain}

-- Each of the breaks is plain.
abbrev EachPlain : List Break → Type 0
EachPlain [] = Unit {0}
EachPlain (b ∷ bs) = IsPlain b × EachPlain bs

plain_piece : (offset : ℕ) (bs rest : List Break) → All IsPlain bs → EachPlain rest → EachPlain (map (set_off offset) bs ++ rest)
plain_piece offset [] rest plain others = others
plain_piece offset (b ∷ bs) rest plain others = (All-head IsPlain b bs plain, plain_piece offset bs rest (All-tail IsPlain b bs plain) others)

plain_pieces : (breaks_of : List ℕ → List Break) (pieces : List (ℕ × List ℕ)) → ArePlain breaks_of → EachPlain (flat_map (breaks_in breaks_of) pieces)
plain_pieces breaks_of [] plain = tt
plain_pieces breaks_of (x ∷ xs) plain = plain_piece x.0 (breaks_of x.1) (flat_map (breaks_in breaks_of) xs) (plain x.1) (plain_pieces breaks_of xs plain)

none_plain : All IsPlain []
none_plain k d lt = absurd (omega (arith, lt))

plain_unless_mixed : (breaks_of : List ℕ → List Break) → ArePlain breaks_of → ArePlain (unless_mixed breaks_of)
plain_unless_mixed breaks_of plain word = elim (is_mixed word) as (λ t. All IsPlain (cond t [] (breaks_of word))) [
  | true ↦ none_plain
  | false ↦ plain word
]

all_unchanged : (places : List ℕ) → All IsPlain (map plain_break places)
all_unchanged [] k d lt = absurd (omega (arith, lt))
all_unchanged (p ∷ ps) zero d lt = refl
all_unchanged (p ∷ ps) (suc k) d lt = all_unchanged ps k d (omega (arith, lt))

plain_composed : (breaks_of : List ℕ → List Break) → ArePlain breaks_of → ArePlain (composed_breaks breaks_of)
unfolding composed_breaks
plain_composed breaks_of plain piece =
    elim (is_composed piece) as (λ t. All IsPlain (cond t (breaks_of piece) (map plain_break (carried piece (unchanged_places (breaks_of (composed piece))))))) [
      | true ↦ plain piece
      | false ↦ all_unchanged (carried piece (unchanged_places (breaks_of (composed piece))))
    ]

plain_word : (breaks_of : List ℕ → List Break) (word : List ℕ) → ArePlain breaks_of → EachPlain (word_breaks breaks_of word)
plain_word breaks_of word plain = elim (is_name word) as (λ t. EachPlain (cond t [] (piece_breaks breaks_of word))) [
  | true ↦ tt
  | false ↦ plain_pieces (composed_breaks (unless_mixed breaks_of)) (with_offsets 0 (text_words word)) (plain_composed (unless_mixed breaks_of) (plain_unless_mixed breaks_of plain))
]

-- Each of the parts has this opening.
abbrev Opened : List ℕ → List Setting → Type 0
Opened indent [] = Unit {0}
Opened indent (p ∷ ps) = (p.opening ≡ indent) × Opened indent ps

-- Each of the parts but the first has this opening.
abbrev OpenedAfter : List ℕ → List Setting → Type 0
OpenedAfter indent [] = Unit {0}
OpenedAfter indent (p ∷ ps) = Opened indent ps

opened-append : (indent : List ℕ) (xs ys : List Setting) → Opened indent xs → Opened indent ys → Opened indent (xs ++ ys)
opened-append indent [] ys left right = right
opened-append indent (x ∷ xs) ys left right = (left.0, opened-append indent xs ys left.1 right)

next_opening : (style : Style) (b : Break) → IsPlain b → style.indent ++ after_of b.change ≡ style.indent
next_opening style b plain = ap (λ change. style.indent ++ after_of change) plain ∙ append-nil style.indent

all_opened : (style : Style) (word opening : List ℕ) (from : ℕ) (bs : List Break) → opening ≡ style.indent → EachPlain bs → Opened style.indent (parts_from style word opening from bs)
all_opened style word opening from [] same plain = (same, tt)
all_opened style word opening from (b ∷ bs) same plain =
    elim (parts_it word from b) as (λ t. Opened style.indent (cond t (part_at style word opening from b ∷ parts_from style word (style.indent ++ after_of b.change) (end_of b) bs) (parts_from style word opening from bs))) [
      | true ↦ (same, all_opened style word (style.indent ++ after_of b.change) (end_of b) bs (next_opening style b plain.0) plain.1)
      | false ↦ all_opened style word opening from bs same plain.1
    ]

later_opened : (style : Style) (word opening : List ℕ) (from : ℕ) (bs : List Break) (others : List Setting) → EachPlain bs → Opened style.indent others
    → OpenedAfter style.indent (parts_from style word opening from bs ++ others)
later_opened style word opening from [] others plain opened = opened
later_opened style word opening from (b ∷ bs) others plain opened =
    let rest = parts_from style word (style.indent ++ after_of b.change) (end_of b) bs in
    elim (parts_it word from b) as (λ t. OpenedAfter style.indent (cond t (part_at style word opening from b ∷ rest) (parts_from style word opening from bs) ++ others)) [
      | true ↦ opened-append style.indent rest others (all_opened style word (style.indent ++ after_of b.change) (end_of b) bs (next_opening style b plain.0) plain.1) opened
      | false ↦ later_opened style word opening from bs others plain.1 opened
    ]

others_opened : (breaks_of : List ℕ → List Break) (style : Style) (words : List (List ℕ)) → ArePlain breaks_of → Opened style.indent (flat_map (word_parts breaks_of style style.indent) words)
others_opened breaks_of style [] plain = tt
others_opened breaks_of style (word ∷ words) plain =
    opened-append style.indent (word_parts breaks_of style style.indent word) (flat_map (word_parts breaks_of style style.indent) words)
    (all_opened style word style.indent 0 (word_breaks breaks_of word) refl (plain_word breaks_of word plain))
    (others_opened breaks_of style words plain)

parts_opened : (breaks_of : List ℕ → List Break) (style : Style) (words : List (List ℕ)) → ArePlain breaks_of → OpenedAfter style.indent (parts_of breaks_of style words)
parts_opened breaks_of style [] plain = tt
parts_opened breaks_of style (word ∷ words) plain =
    later_opened style word style.first 0 (word_breaks breaks_of word) (flat_map (word_parts breaks_of style style.indent) words)
    (plain_word breaks_of word plain) (others_opened breaks_of style words plain)

opening_at : (indent : List ℕ) (parts : List Setting) (i : ℕ) → Opened indent parts → i < length parts → (setting_at parts i).opening ≡ indent
opening_at indent [] i opened lt = absurd (omega (arith, lt))
opening_at indent (p ∷ ps) zero opened lt = opened.0
opening_at indent (p ∷ ps) (suc i) opened lt = opening_at indent ps i opened.1 (omega (arith, lt))

later_opening : (indent : List ℕ) (parts : List Setting) (i : ℕ) → OpenedAfter indent parts → 0 < i → i < length parts → (setting_at parts i).opening ≡ indent
later_opening indent [] i opened some lt = absurd (omega (arith, lt))
later_opening indent (p ∷ ps) zero opened some lt = absurd (omega (arith, some))
later_opening indent (p ∷ ps) (suc i) opened some lt = opening_at indent ps i opened (omega (arith, lt))

opening_columns : (indent : List ℕ) (parts : List Setting) (i : ℕ) → OpenedAfter indent parts → 0 < i → i < length (map stretch_of parts)
    → (stretch_at (map stretch_of parts) i).opening ≡ columns_of indent
opening_columns indent parts i opened some lt =
    let within : i < length parts = omega (arith, lt, length-map parts stretch_of) in
    ap (λ s. s.opening) (get_or-map stretch_of parts i no_setting no_stretch within) ∙ ap columns_of (later_opening indent parts i opened some within)

pub plain_parts_orderly : (breaks_of : List ℕ → List Break) (style : Style) (words : List (List ℕ)) → ArePlain breaks_of
    → IsOrderly (map stretch_of (parts_of breaks_of style words))
plain_parts_orderly breaks_of style words plain place some lt =
    let parts = parts_of breaks_of style words in
    let opened = parts_opened breaks_of style words plain in
    let here = opening_columns style.indent parts place opened some (omega (arith, lt)) in
    let next = opening_columns style.indent parts (place + 1) opened (omega arith) lt in
    omega (arith, here, next)
