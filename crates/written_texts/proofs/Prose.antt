-- Texts without signs.
use Rattle.std.proofs.Common.{◌≡◌, ℕ, ◌<◌, ◌==◌, ◌&&◌, Bool, true, false, not, cond, nat_lt, List, [], ◌∷◌, ◌++◌, length, map, take, drop, Option, Some, None, sym, ap, subst, refl, ◌∙◌, arith, inl, inr, append-nil, length-append}
use Rattle.std.specs.List.{All, flat_map, list_all}
use Rattle.std.specs.Str.{encode_utf8_all}
use Rattle.std.specs.Str.Lines.{lines_of_parts, strip_carriage_return}
use Rattle.std.proofs.lemmas.Bool.{and_right, cond_both, eqb-true, ne_eqb}
use Rattle.std.proofs.lemmas.List.{nil_from_length}
use Rattle.std.proofs.lemmas.List.Elements.{All-nil, All-cons, All-head, All-tail}
use Rattle.std.proofs.lemmas.Str.{chars-nil}
use Rattle.hyphenation_breaks.specs.Break.{Break}
use Rattle.paragraphs.specs.Pages.{IsFilled, AreFilled, apart, page, IsPage}
use Rattle.paragraphs.specs.Paragraphs.{ended, gather, is_blank, lines_of}
use Rattle.paragraphs.specs.Parts.{Style}
use Rattle.paragraphs.specs.Words.{is_gap, if_any}
use Rattle.paragraphs.specs.declared.setting.Aim.{Aim}
use Rattle.written_texts.specs.Prefixes.{Prefix, prefix_of, written_prefix, blank_prefix, spread_char, quote_of, lead_of, rest_of, unquoted, lead_length, mark_length, bare, is_item, signs_in}
use Rattle.written_texts.specs.Kept.{is_white, begins_head, is_code, is_first_field, is_empty_line, is_fenced, place_in_body, place_of_words}
use Rattle.written_texts.specs.Blocks.{Paragraph, Block, Line, Filled, State, Step, begun, with_line, is_open, joined, completed, step, step_empty, step_worded, blocks_from, start}
use Rattle.written_texts.specs.declared.place.LinePlace.{LinePlace}
use Rattle.written_texts.specs.declared.place.LinePlace.TheVariants.{Head, Body}
use Rattle.written_texts.specs.Written.{style_for, IsBlockSet, AreSet, together, IsWritten}
use Rattle.written_texts.specs.Laws.{IsProse, IsProseLine}

-- ---- lines of prose

quote_none : (line : List ℕ) → IsProse line → quote_of line ≡ []
quote_none line p = ap (λ n. take n line) p.unquoted

unquoted_same : (line : List ℕ) → IsProse line → unquoted line ≡ line
unquoted_same line p = ap (λ n. drop n line) p.unquoted

lead_none : (line : List ℕ) → IsProse line → lead_of line ≡ []
lead_none line p = ap (λ u. take (lead_length u) u) (unquoted_same line p) ∙ ap (λ n. take n line) p.unled

rest_same : (line : List ℕ) → IsProse line → rest_of line ≡ line
rest_same line p = ap (λ u. drop (lead_length u) u) (unquoted_same line p) ∙ ap (λ n. drop n line) p.unled

abbrev prefix : List ℕ → List ℕ → Prefix
prefix quote lead = record { quote = quote; lead = lead }

prefix_none : (line : List ℕ) → IsProse line → prefix_of line ≡ prefix [] []
prefix_none line p = ap (λ q. prefix q (lead_of line)) (quote_none line p) ∙ ap (prefix []) (lead_none line p)

unmarked : (line : List ℕ) → IsProse line → is_item line ≡ false
unmarked line p =
    let none : mark_length (bare line) ≡ 0 = omega (arith, ap lead_length (unquoted_same line p) ∙ p.unled) in
    ap (nat_lt 0) none

not_empty : (place : LinePlace) (line : List ℕ) → IsProse line → is_empty_line place line ≡ false
not_empty place line p = and_right (not (is_fenced place)) (list_all is_white (unquoted line)) (ap (list_all is_white) (unquoted_same line p) ∙ p.dark)

filled_in_body : (t : Bool) (x : Option LinePlace) → cond t (Some Head) x ≡ None → x ≡ None
filled_in_body true x is = cc
filled_in_body false x is = is

filled_within : (s t : Bool) (x : Option LinePlace) → cond s (Some Head) (cond t (Some Body) x) ≡ None → x ≡ None
filled_within true t x is = cc
filled_within false true x is = cc
filled_within false false x is = is

in_body : (line : List ℕ) → IsProse line → place_in_body false line ≡ None
in_body line p = filled_in_body (is_first_field line) (place_in_body false line) p.filled

within : (line : List ℕ) → IsProse line → place_in_body true line ≡ None
within line p = filled_within (begins_head line) (is_code line) (place_in_body true line) (in_body line p)

blank_none : is_blank [] ≡ true
blank_none = ap (list_all is_gap) chars-nil

-- ---- paragraphs without a prefix

record IsPlain (p : Paragraph) (text : List ℕ) : Type 0 where
  first : p.first ≡ prefix [] []
  others : p.others ≡ prefix [] []
  same : p.text ≡ text

abbrev styled : Style → List ℕ → List ℕ → Style
styled style first indent = record { first = first; indent = indent; price = style.price }

style_same : (style : Style) (p : Paragraph) (text : List ℕ) → IsPlain p text → style_for style p ≡ style
style_same style p text plain =
    ap (λ q. styled style (style.first ++ written_prefix q) (style.indent ++ blank_prefix p.others)) plain.first
    ∙ ap (λ cs. styled style (style.first ++ encode_utf8_all (flat_map spread_char cs)) (style.indent ++ blank_prefix p.others)) chars-nil
    ∙ ap (λ f. styled style f (style.indent ++ blank_prefix p.others)) (append-nil style.first)
    ∙ ap (λ q. styled style style.first (style.indent ++ blank_prefix q)) plain.others
    ∙ ap (λ cs. styled style style.first (style.indent ++ map (λ _. 32) (flat_map spread_char cs))) chars-nil
    ∙ ap (styled style style.first) (append-nil style.indent)

plain_begun : (line : List ℕ) → IsProse line → IsPlain (begun line) (ended line)
plain_begun line p = record { first = prefix_none line p; others = prefix_none line p; same = ap ended (rest_same line p) }

plain_with : (p : Paragraph) (text line : List ℕ) → IsPlain p text → IsProse line → IsPlain (with_line p line) (text ++ ended line)
plain_with p text line plain prose = record {
  first = plain.first;
  others = cond_both p.settled p.others (prefix_of line) (λ o. o ≡ prefix [] []) (λ _. plain.others) (λ _. prefix_none line prose);
  same = ap (λ t. t ++ ended (rest_of line)) plain.same ∙ ap (λ r. text ++ ended r) (rest_same line prose);
}

-- ---- steps

abbrev on_with : Paragraph → State
on_with p = record { place = Body; current = Some p; gap = None }

abbrev after_gap : State
after_gap = record { place = Body; current = None; gap = Some [] }

goes_on : (p : Paragraph) (text line : List ℕ) → IsPlain p text → IsProse line → is_open (Some p) line ≡ true
goes_on p text line plain prose =
    ap (λ f. signs_in f.quote == signs_in (quote_of line)) plain.first ∙ ap (λ q. signs_in [] == signs_in q) (quote_none line prose)

step_on : (p : Paragraph) (text line : List ℕ) → IsPlain p text → IsProse line → step (on_with p) line ≡ record { blocks = []; state = on_with (with_line p line) }
step_on p text line plain prose =
    let state = on_with p in
    let on : Step = record { blocks = []; state = on_with (with_line p line) } in
    let new : Step = record { blocks = completed state; state = on_with (begun line) } in
    ap (λ t. cond t (step_empty state line) (step_worded state line (place_in_body (is_open (Some p) line) line))) (not_empty Body line prose)
    ∙ ap (λ o. step_worded state line (place_in_body o line)) (goes_on p text line plain prose)
    ∙ ap (step_worded state line) (within line prose)
    ∙ ap (λ t. cond (t && not (is_item line)) on new) (goes_on p text line plain prose)
    ∙ ap (λ t. cond (not t) on new) (unmarked line prose)

step_first : (state : State) (line : List ℕ) → state.current ≡ None → place_of_words state.place false line ≡ None → IsProse line
    → step state line ≡ record { blocks = completed state; state = on_with (begun line) }
step_first state line none filled prose =
    let on : Step = record { blocks = []; state = on_with (joined state.current line) } in
    let new : Step = record { blocks = completed state; state = on_with (begun line) } in
    ap (λ t. cond t (step_empty state line) (step_worded state line (place_of_words state.place (is_open state.current line) line))) (not_empty state.place line prose)
    ∙ ap (λ c. step_worded state line (place_of_words state.place (is_open c line) line)) none
    ∙ ap (step_worded state line) filled
    ∙ ap (λ c. cond (is_open c line && not (is_item line)) on new) none

-- ---- pages

module _ (aim : Aim) (breaks_of : List ℕ → List Break) (style : Style) (columns : ℕ) where
  abbrev Rows : List Block → List (List (List ℕ)) → Type 0
  Rows all rows = AreSet aim breaks_of style columns all rows

  abbrev Each : List (List ℕ) → List (List (List ℕ)) → Type 0
  Each texts rows = AreFilled aim breaks_of style columns texts rows

  -- Lines of some paragraphs.
  record Pages (texts lines : List (List ℕ)) : Type 0 where
    first : List (List ℕ)
    others : List (List (List ℕ))
    each : Each texts (first ∷ others)
    whole : lines ≡ first ++ flat_map apart others

  -- Lines of paragraphs after an empty line.
  record Apart (texts lines : List (List ℕ)) : Type 0 where
    others : List (List (List ℕ))
    each : Each texts others
    whole : lines ≡ flat_map apart others

  -- Lines of paragraphs.
  record Whole (texts lines : List (List ℕ)) : Type 0 where
    rows : List (List (List ℕ))
    each : Each texts rows
    whole : lines ≡ page rows

  filled_row : (p : Paragraph) (text : List ℕ) (row : List (List ℕ)) → IsPlain p text → IsBlockSet aim breaks_of style columns (Filled p) row → IsFilled aim breaks_of style columns text row
  filled_row p text row plain is =
      subst (λ t. IsFilled aim breaks_of style columns t row) plain.same
      (subst (λ s. IsFilled aim breaks_of s columns p.text row) (style_same style p text plain) is)

  some_text : (text : List ℕ) → 0 < length text → if_any text ≡ text ∷ []
  some_text text some = ap (λ t. cond t [] (text ∷ [])) (ne_eqb (length text) 0 (λ e. omega (arith, some, e)))

  gather_blank : (gathered : List ℕ) (lines : List (List ℕ)) → gather gathered ([] ∷ lines) ≡ if_any gathered ++ gather [] lines
  gather_blank gathered lines = ap (λ t. cond t (if_any gathered ++ gather [] lines) (gather (gathered ++ ended []) lines)) blank_none

  gather_prose : (gathered line : List ℕ) (lines : List (List ℕ)) → IsProse line → gather gathered (line ∷ lines) ≡ gather (gathered ++ ended line) lines
  gather_prose gathered line lines prose = ap (λ t. cond t (if_any gathered ++ gather [] lines) (gather (gathered ++ ended line) lines)) prose.worded

  some_ended : (text line : List ℕ) → 0 < length (text ++ ended line)
  some_ended text line = omega (arith, length-append text (ended line), length-append line (10 ∷ []))

  -- The lines of a first block, and those of the others.
  record Cut (block : Block) (others : List Block) (rows : List (List (List ℕ))) : Type 0 where
    row : List (List ℕ)
    more : List (List (List ℕ))
    is : rows ≡ row ∷ more
    set : IsBlockSet aim breaks_of style columns block row
    later : Rows others more

  cut : (block : Block) (others : List Block) (rows : List (List (List ℕ))) → Rows (block ∷ others) rows → Cut block others rows
  cut block others [] are = absurd are
  cut block others (row ∷ rows) are = record { row = row; more = rows; is = refl; set = are.0; later = are.1 }

  none_left : (rows : List (List (List ℕ))) → Rows [] rows → rows ≡ []
  none_left [] are = refl
  none_left (row ∷ rows) are = absurd are

  -- The lines after a gap, and those after a paragraph that goes on.
  abbrev Gaps : List (List ℕ) → Type 0
  Gaps lines = (rows : List (List (List ℕ))) → Rows (blocks_from after_gap lines) rows → Apart (gather [] lines) (together rows)

  abbrev Opens : List (List ℕ) → Type 0
  Opens lines = (p : Paragraph) (text : List ℕ) → IsPlain p text → 0 < length text
      → (rows : List (List (List ℕ))) → Rows (blocks_from (on_with p) lines) rows → Pages (gather text lines) (together rows)

  gaps_end : Gaps []
  gaps_end rows are = record { others = []; each = tt; whole = ap together (none_left rows are) }

  opens_end : Opens []
  opens_end p text plain some rows are =
      let c = cut (Filled p) [] rows are in
      record {
        first = c.row;
        others = [];
        each = subst (λ ts. Each ts (c.row ∷ [])) (sym (some_text text some)) (filled_row p text c.row plain c.set, tt);
        whole = ap together c.is ∙ ap (λ rs. c.row ++ together rs) (none_left c.more c.later);
      }

  opens_blank : (lines : List (List ℕ)) → Gaps lines → Opens ([] ∷ lines)
  opens_blank lines gaps p text plain some rows are =
      let c = cut (Filled p) (blocks_from after_gap lines) rows are in
      let rest = gaps c.more c.later in
      record {
        first = c.row;
        others = rest.others;
        each =
            subst (λ ts. Each ts (c.row ∷ rest.others)) (sym (gather_blank text lines ∙ ap (λ t. t ++ gather [] lines) (some_text text some)))
            (filled_row p text c.row plain c.set, rest.each);
        whole = ap together c.is ∙ ap (λ t. c.row ++ t) rest.whole;
      }

  opens_prose : (line : List ℕ) (lines : List (List ℕ)) → IsProse line → Opens lines → Opens (line ∷ lines)
  opens_prose line lines prose opens p text plain some rows are =
      let here = subst (λ t. Rows (t.blocks ++ blocks_from t.state lines) rows) (step_on p text line plain prose) are in
      let rest = opens (with_line p line) (text ++ ended line) (plain_with p text line plain prose) (some_ended text line) rows here in
      subst (λ ts. Pages ts (together rows)) (sym (gather_prose text line lines prose)) rest

  gaps_blank : (lines : List (List ℕ)) → Gaps lines → Gaps ([] ∷ lines)
  gaps_blank lines gaps rows are = subst (λ ts. Apart ts (together rows)) (sym (gather_blank [] lines)) (gaps rows are)

  gaps_prose : (line : List ℕ) (lines : List (List ℕ)) → IsProse line → Opens lines → Gaps (line ∷ lines)
  gaps_prose line lines prose opens rows are =
      let here = subst (λ t. Rows (t.blocks ++ blocks_from t.state lines) rows) (step_first after_gap line refl (in_body line prose) prose) are in
      let c = cut (Line []) (blocks_from (on_with (begun line)) lines) rows here in
      let rest = opens (begun line) (ended line) (plain_begun line prose) (some_ended [] line) c.more c.later in
      record {
        others = rest.first ∷ rest.others;
        each = subst (λ ts. Each ts (rest.first ∷ rest.others)) (sym (gather_prose [] line lines prose)) rest.each;
        whole = ap together c.is ∙ ap (λ r. r ++ together c.more) c.set ∙ ap (λ t. [] ∷ t) rest.whole;
      }

  both : (lines : List (List ℕ)) → All IsProseLine lines → Gaps lines × Opens lines
  both [] all = (gaps_end, opens_end)
  both (line ∷ lines) all =
      let rest = both lines (All-tail IsProseLine line lines all) in
      elim (All-head IsProseLine line lines all) [
        | inl empty ↦
            (subst (λ l. Gaps (l ∷ lines)) (sym empty) (gaps_blank lines rest.0), subst (λ l. Opens (l ∷ lines)) (sym empty) (opens_blank lines rest.0))
        | inr prose ↦ (gaps_prose line lines prose rest.1, opens_prose line lines prose rest.1)
      ]

  -- The lines of a text from its beginning.
  abbrev Begins : List (List ℕ) → Type 0
  Begins lines = (rows : List (List (List ℕ))) → Rows (blocks_from start lines) rows → Whole (gather [] lines) (together rows)

  begins_blank : (lines : List (List ℕ)) → Begins lines → Begins ([] ∷ lines)
  begins_blank lines begins rows are = subst (λ ts. Whole ts (together rows)) (sym (gather_blank [] lines)) (begins rows are)

  begins_prose : (line : List ℕ) (lines : List (List ℕ)) → IsProse line → Opens lines → Begins (line ∷ lines)
  begins_prose line lines prose opens rows are =
      let here = subst (λ t. Rows (t.blocks ++ blocks_from t.state lines) rows) (step_first start line refl prose.filled prose) are in
      let rest = opens (begun line) (ended line) (plain_begun line prose) (some_ended [] line) rows here in
      record {
        rows = rest.first ∷ rest.others;
        each = subst (λ ts. Each ts (rest.first ∷ rest.others)) (sym (gather_prose [] line lines prose)) rest.each;
        whole = rest.whole;
      }

  begins : (lines : List (List ℕ)) → All IsProseLine lines → Begins lines
  begins [] all = λ rows are. record { rows = []; each = tt; whole = ap together (none_left rows are) }
  begins (line ∷ lines) all =
      elim (All-head IsProseLine line lines all) [
        | inl empty ↦ subst (λ l. Begins (l ∷ lines)) (sym empty) (begins_blank lines (begins lines (All-tail IsProseLine line lines all)))
        | inr prose ↦ let rest = both lines (All-tail IsProseLine line lines all) in begins_prose line lines prose rest.1
      ]

-- ---- the lines of a text

abbrev Gathers : List (List ℕ) → List (List ℕ) → Type 0
Gathers lines parts = ((gathered : List ℕ) → gather gathered lines ≡ gather gathered parts) × All IsProseLine lines

one_line : (part : List ℕ) → All IsProseLine (part ∷ []) → Gathers (lines_of_parts (part ∷ [])) (part ∷ [])
one_line part all =
    cond_both (length part == 0) [] (part ∷ []) (λ ls. Gathers ls (part ∷ []))
    (λ is. (
      λ gathered.
          sym (ap (λ l. gather gathered (l ∷ [])) (nil_from_length part (eqb-true (length part) 0 is))
          ∙ ap (λ t. cond t (if_any gathered ++ gather [] []) (gather (gathered ++ ended []) [])) blank_none ∙ append-nil (if_any gathered)),
      All-nil IsProseLine,
    ))
    (λ _. (λ gathered. refl, all))

whole_line : (line : List ℕ) → IsProseLine line → strip_carriage_return line ≡ line
whole_line line (inl empty) = subst (λ l. strip_carriage_return l ≡ l) (sym empty) refl
whole_line line (inr prose) = prose.whole

gathers : (parts : List (List ℕ)) → All IsProseLine parts → Gathers (lines_of_parts parts) parts
gathers [] all = (λ gathered. refl, all)
gathers (part ∷ []) all = one_line part all
gathers (part ∷ next ∷ more) all =
    let rest = gathers (next ∷ more) (All-tail IsProseLine part (next ∷ more) all) in
    let lines = lines_of_parts (next ∷ more) in
    let here = All-head IsProseLine part (next ∷ more) all in
    let same = whole_line part here in (
      λ gathered.
          ap (λ l. gather gathered (l ∷ lines)) same
          ∙ ap (λ r. cond (is_blank part) (if_any gathered ++ r) (gather (gathered ++ ended part) lines)) (rest.0 [])
          ∙ ap (λ r. cond (is_blank part) (if_any gathered ++ gather [] (next ∷ more)) r) (rest.0 (gathered ++ ended part)),
      subst (λ l. All IsProseLine (l ∷ lines)) (sym same) (All-cons IsProseLine part lines here rest.1),
    )

pub prose_alike : (aim : Aim) (breaks_of : List ℕ → List Break) (style : Style) (columns : ℕ) (text : List ℕ) (all : List (List ℕ))
    → All IsProseLine (lines_of text) → IsWritten aim breaks_of style columns text all → IsPage aim breaks_of style columns text all
prose_alike aim breaks_of style columns text all prose written =
    let parts = lines_of text in
    let same = gathers parts prose in
    let made = begins aim breaks_of style columns (lines_of_parts parts) same.1 written.rows written.each in
    record {
      rows = made.rows;
      each = subst (λ ts. AreFilled aim breaks_of style columns ts made.rows) (same.0 []) made.each;
      whole = written.whole ∙ made.whole;
    }
