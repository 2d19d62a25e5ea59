-- The lines of a paragraph begin with its prefixes.
use Rattle.std.proofs.Common.{◌≡◌, ℕ, zero, suc, ◌-◌, ◌<◌, ◌≤◌, List, [], ◌∷◌, ◌++◌, length, map, sym, ap, subst, refl, ◌∙◌, arith, append_assoc, append-nil}
use Rattle.std.specs.List.{All, slice_range, flat_map}
use Rattle.std.proofs.lemmas.Bool.{cond_both}
use Rattle.std.proofs.lemmas.List.{length-map}
use Rattle.std.proofs.lemmas.List.Elements.{All-nil, All-cons, All-append}
use Rattle.hyphenation_breaks.specs.Break.{Break, end_of, after_of}
use Rattle.line_division.specs.declared.stretch.Stretch.{Stretch}
use Rattle.line_division.specs.Division.{Divides}
use Rattle.paragraphs.specs.Aims.{IsAimedAt}
use Rattle.paragraphs.specs.Pages.{IsFilled}
use Rattle.paragraphs.specs.Parts.{Style, parts_it, part_at, parts_from, word_parts, word_breaks, other_parts, parts_of}
use Rattle.paragraphs.specs.Settings.{Setting, no_setting, setting_at, shown_text, last_text, stretch_of, line_text, lines_to}
use Rattle.paragraphs.specs.Words.{words}
use Rattle.paragraphs.specs.declared.setting.Aim.{Aim}
use Rattle.paragraphs.specs.declared.setting.Aim.TheVariants.{Full, Even}
use Rattle.written_texts.specs.Blocks.{Paragraph, Filled}
use Rattle.written_texts.specs.Laws.{Begins, LinesBegin}
use Rattle.written_texts.specs.Prefixes.{written_prefix, blank_prefix}
use Rattle.written_texts.specs.Written.{IsBlockSet, style_for}

begins_same : (text : List ℕ) → Begins text text
begins_same text = record { rest = []; whole = sym (append-nil text) }

begins_more : (with text more : List ℕ) → Begins with text → Begins with (text ++ more)
begins_more with text more b = record { rest = b.rest ++ more; whole = ap (λ t. t ++ more) b.whole ∙ append_assoc with b.rest more }

-- ---- the openings of parts

abbrev Opens : List ℕ → Setting → Type 0
Opens indent part = Begins indent part.opening

all_open : (style : Style) (word opening : List ℕ) (from : ℕ) (bs : List Break) → Begins style.indent opening → All (Opens style.indent) (parts_from style word opening from bs)
all_open style word opening from [] begins = All-cons (Opens style.indent) _ [] begins (All-nil (Opens style.indent))
all_open style word opening from (b ∷ bs) begins =
    let next = parts_from style word (style.indent ++ after_of b.change) (end_of b) bs in
    let rest = all_open style word (style.indent ++ after_of b.change) (end_of b) bs (begins_more style.indent style.indent (after_of b.change) (begins_same style.indent)) in
    cond_both (parts_it word from b) (part_at style word opening from b ∷ next) (parts_from style word opening from bs) (All (Opens style.indent))
    (λ _. All-cons (Opens style.indent) (part_at style word opening from b) next begins rest)
    (λ _. all_open style word opening from bs begins)

-- The first part opens with a text, and each other one with the indent.
record Headed (indent opening : List ℕ) (parts : List Setting) : Type 0 where
  first : Setting
  others : List Setting
  whole : parts ≡ first ∷ others
  same : first.opening ≡ opening
  opened : All (Opens indent) others

headed : (style : Style) (word opening : List ℕ) (from : ℕ) (bs : List Break) → Headed style.indent opening (parts_from style word opening from bs)
headed style word opening from [] = record { first = _; others = []; whole = refl; same = refl; opened = All-nil (Opens style.indent) }
headed style word opening from (b ∷ bs) =
    let next = parts_from style word (style.indent ++ after_of b.change) (end_of b) bs in
    let rest = all_open style word (style.indent ++ after_of b.change) (end_of b) bs (begins_more style.indent style.indent (after_of b.change) (begins_same style.indent)) in
    cond_both (parts_it word from b) (part_at style word opening from b ∷ next) (parts_from style word opening from bs) (Headed style.indent opening)
    (λ _. record { first = part_at style word opening from b; others = next; whole = refl; same = refl; opened = rest })
    (λ _. headed style word opening from bs)

others_open : (breaks_of : List ℕ → List Break) (style : Style) (words : List (List ℕ)) → All (Opens style.indent) (other_parts breaks_of style words)
others_open breaks_of style [] = All-nil (Opens style.indent)
others_open breaks_of style (word ∷ words) =
    All-append (Opens style.indent) (word_parts breaks_of style style.indent word) (other_parts breaks_of style words)
    (all_open style word style.indent 0 (word_breaks breaks_of word) (begins_same style.indent))
    (others_open breaks_of style words)

parts_headed : (breaks_of : List ℕ → List Break) (style : Style) (word : List ℕ) (words : List (List ℕ)) → Headed style.indent style.first (parts_of breaks_of style (word ∷ words))
parts_headed breaks_of style word words =
    let h = headed style word style.first 0 (word_breaks breaks_of word) in
    let more = other_parts breaks_of style words in
    record {
      first = h.first;
      others = h.others ++ more;
      whole = ap (λ ps. ps ++ more) h.whole;
      same = h.same;
      opened = All-append (Opens style.indent) h.others more h.opened (others_open breaks_of style words);
    }

-- ---- lines

line_begins : (with : List ℕ) (parts : List Setting) (start end : ℕ) → Begins with (setting_at parts start).opening → Begins with (line_text parts start end)
line_begins with parts start end begins =
    let opening = (setting_at parts start).opening in
    let joined = flat_map shown_text (slice_range parts start (end - 1)) in
    begins_more with (opening ++ joined) (last_text (setting_at parts (end - 1))) (begins_more with opening joined begins)

divides_within : (stretches : List Stretch) (columns start : ℕ) (row : List ℕ) → Divides stretches columns start row → start ≤ length stretches
divides_within stretches columns start [] divides = omega (arith, divides)
divides_within stretches columns start (end ∷ row) divides = let rest = divides_within stretches columns end row divides.2 in omega (arith, rest, divides.0)

opens_later : (indent : List ℕ) (first : Setting) (others : List Setting) (start : ℕ) → All (Opens indent) others → 0 < start → start < length (first ∷ others)
    → Opens indent (setting_at (first ∷ others) start)
opens_later indent first others zero opened some lt = absurd (omega (arith, some))
opens_later indent first others (suc k) opened some lt = opened k no_setting (omega (arith, lt))

later_begin : (indent : List ℕ) (first : Setting) (others : List Setting) (columns start : ℕ) (row : List ℕ) → All (Opens indent) others → 0 < start
    → Divides (map stretch_of (first ∷ others)) columns start row → All (Begins indent) (lines_to (first ∷ others) start row)
later_begin indent first others columns start [] opened some divides = All-nil (Begins indent)
later_begin indent first others columns start (end ∷ row) opened some divides =
    let parts = first ∷ others in
    let upto : end ≤ length parts = omega (arith, divides_within (map stretch_of parts) columns end row divides.2, length-map parts stretch_of) in
    let lt : start < length parts = omega (arith, divides.0, upto) in
    let later : 0 < end = omega (arith, divides.0) in
    All-cons (Begins indent) (line_text parts start end) (lines_to parts end row)
    (line_begins indent parts start end (opens_later indent first others start opened some lt))
    (later_begin indent first others columns end row opened later divides.2)

lines_begin : (indent opening : List ℕ) (parts : List Setting) (columns : ℕ) (row : List ℕ) → Headed indent opening parts → Divides (map stretch_of parts) columns 0 row
    → LinesBegin opening indent (lines_to parts 0 row)
lines_begin indent opening parts columns [] headed divides = tt
lines_begin indent opening parts columns (end ∷ row) headed divides =
    let all = headed.first ∷ headed.others in
    let there = subst (λ ps. Divides (map stretch_of ps) columns 0 (end ∷ row)) headed.whole divides in
    let first : Begins opening headed.first.opening = subst (Begins opening) (sym headed.same) (begins_same opening) in
    subst (λ ps. LinesBegin opening indent (lines_to ps 0 (end ∷ row))) (sym headed.whole)
    (line_begins opening all 0 end first, later_begin indent headed.first headed.others columns end row headed.opened (omega (arith, there.0)) there.2)

divided : (aim : Aim) (stretches : List Stretch) (columns : ℕ) (row : List ℕ) → IsAimedAt aim stretches columns row → Divides stretches columns 0 row
divided Full stretches columns row aimed = aimed.divides
divided (Even last_columns ladder) stretches columns row aimed = aimed.divides

none_begin : (indent opening : List ℕ) (columns : ℕ) (row : List ℕ) → Divides (map stretch_of []) columns 0 row → LinesBegin opening indent (lines_to [] 0 row)
none_begin indent opening columns [] divides = tt
none_begin indent opening columns (end ∷ row) divides =
    absurd (omega (arith, divides.0, divides_within (map stretch_of []) columns end row divides.2))

parts_begin : (breaks_of : List ℕ → List Break) (style : Style) (ws : List (List ℕ)) (columns : ℕ) (row : List ℕ) → Divides (map stretch_of (parts_of breaks_of style ws)) columns 0 row
    → LinesBegin style.first style.indent (lines_to (parts_of breaks_of style ws) 0 row)
parts_begin breaks_of style [] columns row divides = none_begin style.indent style.first columns row divides
parts_begin breaks_of style (word ∷ ws) columns row divides =
    lines_begin style.indent style.first (parts_of breaks_of style (word ∷ ws)) columns row (parts_headed breaks_of style word ws) divides

filled_begin : (aim : Aim) (breaks_of : List ℕ → List Break) (style : Style) (columns : ℕ) (text : List ℕ) (lines : List (List ℕ)) → IsFilled aim breaks_of style columns text lines
    → LinesBegin style.first style.indent lines
filled_begin aim breaks_of style columns text lines filled =
    let parts = parts_of breaks_of style (words text) in
    subst (LinesBegin style.first style.indent) (sym filled.set.text)
    (parts_begin breaks_of style (words text) columns filled.set.row (divided aim (map stretch_of parts) columns filled.set.row filled.set.aimed))

pub prefixes_kept : (aim : Aim) (breaks_of : List ℕ → List Break) (style : Style) (columns : ℕ) (p : Paragraph) (lines : List (List ℕ)) → IsBlockSet aim breaks_of style columns (Filled p) lines
    → LinesBegin (style.first ++ written_prefix p.first) (style.indent ++ blank_prefix p.others) lines
prefixes_kept aim breaks_of style columns p lines set = filled_begin aim breaks_of (style_for style p) columns p.text lines set
