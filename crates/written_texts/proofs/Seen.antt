-- A text without its white space and its quote signs.
use Rattle.std.proofs.Common.{◌≡◌, ℕ, suc, ◌+◌, ◌-◌, ◌==◌, ◌||◌, ◌&&◌, Bool, true, false, not, cond, nat_lt, List, [], ◌∷◌, ◌++◌, length, take, get_or, slice_index, Option, Some, None, sym, ap, subst, refl, ◌∙◌, arith, inl, inr, append_assoc, append-nil}
use Rattle.std.specs.List.{flat_map, list_all, onto_first, slice_split}
use Rattle.std.specs.Str.Lines.{lines_of_parts, strip_carriage_return}
use Rattle.std.proofs.lemmas.Bool.{and_parts, cond_both, eqb-true, ltb-false, or_cases, or_left, or_right, not-true, not_from_true}
use Rattle.std.proofs.lemmas.Grind.{flat_map-append}
use Rattle.std.proofs.lemmas.List.{take-append-drop, take_more, take_all, nil_from_length}
use Rattle.std.proofs.lemmas.List.Elements.{filter-append}
use Rattle.paragraphs.specs.Paragraphs.{ended}
use Rattle.written_texts.specs.Prefixes.{is_sign, is_indent, is_deep, signs_length, quote_length, quote_of, unquoted, indent_length, mark_length, lead_length, lead_of, rest_of, bare, is_item}
use Rattle.written_texts.specs.Kept.{is_white, is_empty_line, place_of_words}
use Rattle.written_texts.specs.Blocks.{Paragraph, Line, Filled, State, Step, begun, with_line, is_open, joined, block_if_any, gap_if_any, completed, shorter, gap_after_empty, step, step_empty, step_prose, step_worded, blocks_from, start, blocks}
use Rattle.written_texts.specs.declared.place.LinePlace.{LinePlace}
use Rattle.written_texts.specs.declared.place.LinePlace.TheVariants.{Beginning, Head, Body, Fence, Tildes, Signature}
use Rattle.written_texts.specs.Laws.{is_seen, seen, seen_in}

seen-append : (xs ys : List ℕ) → seen (xs ++ ys) ≡ seen xs ++ seen ys
seen-append xs ys = filter-append is_seen xs ys

seen_ended : (line : List ℕ) → seen (ended line) ≡ seen line
seen_ended line = seen-append line (10 ∷ []) ∙ append-nil (seen line)

-- A byte that is not seen adds nothing.
seen_no : (b : ℕ) (text : List ℕ) → (is_white b || is_sign b) ≡ true → seen (b ∷ text) ≡ seen text
seen_no b text is = ap (λ t. cond t (b ∷ seen text) (seen text)) (not_from_true (is_white b || is_sign b) is)

-- ---- prefixes

sign_or_space : (b : ℕ) (more : Bool) → (is_sign b || (b == 32 && more)) ≡ true → (is_white b || is_sign b) ≡ true
sign_or_space b more is =
    elim (or_cases (is_sign b) (b == 32 && more) is) [
      | inl sign ↦ or_right (is_white b) (is_sign b) sign
      | inr space ↦ let both = and_parts (b == 32) more space in or_left (is_white b) (is_sign b) (or_left (b == 32) _ both.0)
    ]

signs_unseen : (text : List ℕ) → seen (take (signs_length text) text) ≡ []
signs_unseen [] = refl
signs_unseen (b ∷ text) =
    let n = signs_length text in
    cond_both (is_sign b || (b == 32 && nat_lt 0 n)) (n + 1) 0 (λ k. seen (take k (b ∷ text)) ≡ [])
    (λ is.
    let more : n + 1 ≡ suc n = omega arith in
    ap (λ k. seen (take k (b ∷ text))) more ∙ seen_no b (take n text) (sign_or_space b (nat_lt 0 n) is) ∙ signs_unseen text)
    (λ _. refl)

quote_unseen : (line : List ℕ) → seen (quote_of line) ≡ []
quote_unseen line = cond_both (is_deep line) 0 (signs_length line) (λ k. seen (take k line) ≡ []) (λ _. refl) (λ _. signs_unseen line)

seen_unquoted : (line : List ℕ) → seen (unquoted line) ≡ seen line
seen_unquoted line =
    ap (λ s. s ++ seen (unquoted line)) (sym (quote_unseen line))
    ∙ sym (seen-append (quote_of line) (unquoted line)) ∙ ap seen (take-append-drop (quote_length line) line)

indent_white : (b : ℕ) → is_indent b ≡ true → (is_white b || is_sign b) ≡ true
indent_white b is =
    elim (or_cases (b == 32) (b == 9) is) [
      | inl space ↦ or_left (is_white b) (is_sign b) (or_left (b == 32) _ space)
      | inr tab ↦ subst (λ c. (is_white c || is_sign c) ≡ true) (sym (eqb-true b 9 tab)) refl
    ]

indent_unseen : (text : List ℕ) → seen (take (indent_length text) text) ≡ []
indent_unseen [] = refl
indent_unseen (b ∷ text) =
    let n = indent_length text in
    cond_both (is_indent b) (1 + n) 0 (λ k. seen (take k (b ∷ text)) ≡ [])
    (λ is.
    let more : 1 + n ≡ suc n = omega arith in
    ap (λ k. seen (take k (b ∷ text))) more ∙ seen_no b (take n text) (indent_white b is) ∙ indent_unseen text)
    (λ _. refl)

-- A line without a mark has nothing that is seen in its lead.
lead_unseen : (line : List ℕ) → is_item line ≡ false → seen (lead_of line) ≡ []
lead_unseen line unmarked =
    let text = unquoted line in
    let none : indent_length text + mark_length (bare line) ≡ indent_length text = omega (arith, ltb-false 0 (mark_length (bare line)) unmarked) in
    ap (λ k. seen (take k text)) none ∙ indent_unseen text

seen_parts : (line : List ℕ) → seen (lead_of line) ++ seen (rest_of line) ≡ seen line
seen_parts line =
    sym (seen-append (lead_of line) (rest_of line)) ∙ ap seen (take-append-drop (lead_length (unquoted line)) (unquoted line)) ∙ seen_unquoted line

seen_rest : (line : List ℕ) → is_item line ≡ false → seen (rest_of line) ≡ seen line
seen_rest line unmarked = ap (λ s. s ++ seen (rest_of line)) (sym (lead_unseen line unmarked)) ∙ seen_parts line

-- ---- paragraphs

seen_begun : (line : List ℕ) → seen_in (Filled (begun line)) ≡ seen line
seen_begun line =
    let quote = quote_of line in
    let lead = lead_of line in
    seen-append (quote ++ lead) (ended (rest_of line))
    ∙ ap (λ s. s ++ seen (ended (rest_of line))) (seen-append quote lead ∙ ap (λ s. s ++ seen lead) (quote_unseen line))
    ∙ ap (λ s. seen lead ++ s) (seen_ended (rest_of line)) ∙ seen_parts line

seen_with : (p : Paragraph) (line : List ℕ) → is_item line ≡ false → seen_in (Filled (with_line p line)) ≡ seen_in (Filled p) ++ seen line
seen_with p line unmarked =
    let before = p.first.quote ++ p.first.lead in
    ap seen (sym (append_assoc before p.text (ended (rest_of line))))
    ∙ seen-append (before ++ p.text) (ended (rest_of line))
    ∙ ap (λ s. seen (before ++ p.text) ++ s) (seen_ended (rest_of line) ∙ seen_rest line unmarked)

-- The paragraph that may go on, as it is seen.
abbrev seen_open : Option Paragraph → List ℕ
seen_open current = flat_map seen_in (block_if_any current)

seen_joined : (current : Option Paragraph) (line : List ℕ) → is_item line ≡ false → seen_open (Some (joined current line)) ≡ seen_open current ++ seen line
seen_joined None line unmarked = append-nil (seen_in (Filled (begun line))) ∙ seen_begun line
seen_joined (Some p) line unmarked =
    append-nil (seen_in (Filled (with_line p line))) ∙ seen_with p line unmarked ∙ ap (λ s. s ++ seen line) (sym (append-nil (seen_in (Filled p))))

-- ---- steps

-- Nothing is seen in an empty line that is to come.
abbrev IsUnseen : Option (List ℕ) → Type 0
IsUnseen None = Unit {0}
IsUnseen (Some gap) = seen gap ≡ []

shorter_unseen : (gap : Option (List ℕ)) (line : List ℕ) → IsUnseen gap → seen (shorter gap (quote_of line)) ≡ []
shorter_unseen None line unseen = quote_unseen line
shorter_unseen (Some gap) line unseen =
    cond_both (nat_lt (length gap) (length (quote_of line))) gap (quote_of line) (λ q. seen q ≡ []) (λ _. unseen) (λ _. quote_unseen line)

gap_unseen : (place : LinePlace) (gap : Option (List ℕ)) (line : List ℕ) → IsUnseen gap → IsUnseen (gap_after_empty place gap (quote_of line))
gap_unseen Beginning gap line unseen = tt
gap_unseen Head gap line unseen = shorter_unseen gap line unseen
gap_unseen Body gap line unseen = shorter_unseen gap line unseen
gap_unseen Fence gap line unseen = shorter_unseen gap line unseen
gap_unseen Tildes gap line unseen = shorter_unseen gap line unseen
gap_unseen Signature gap line unseen = shorter_unseen gap line unseen

gap_adds_none : (gap : Option (List ℕ)) → IsUnseen gap → flat_map seen_in (gap_if_any gap) ≡ []
gap_adds_none None unseen = refl
gap_adds_none (Some gap) unseen = append-nil (seen gap) ∙ unseen

seen_completed : (state : State) → IsUnseen state.gap → flat_map seen_in (completed state) ≡ seen_open state.current
seen_completed state unseen =
    flat_map-append seen_in (block_if_any state.current) (gap_if_any state.gap)
    ∙ ap (λ s. seen_open state.current ++ s) (gap_adds_none state.gap unseen) ∙ append-nil (seen_open state.current)

-- A step keeps what was seen, and adds what is seen of its line.
record Keeps (state : State) (line : List ℕ) (taken : Step) : Type 0 where
  same : flat_map seen_in taken.blocks ++ seen_open taken.state.current ≡ seen_open state.current ++ seen line
  unseen : IsUnseen taken.state.gap

white_unseen : (text : List ℕ) → list_all is_white text ≡ true → seen text ≡ []
white_unseen [] all = refl
white_unseen (b ∷ text) all =
    let both = and_parts (is_white b) (list_all is_white text) all in
    seen_no b text (or_left (is_white b) (is_sign b) both.0) ∙ white_unseen text both.1

keeps_empty : (state : State) (line : List ℕ) → IsUnseen state.gap → list_all is_white (unquoted line) ≡ true → Keeps state line (step_empty state line)
keeps_empty state line unseen all = record {
  same = ap (λ s. seen_open state.current ++ s) (sym (white_unseen (unquoted line) all) ∙ seen_unquoted line);
  unseen = gap_unseen state.place state.gap line unseen;
}

keeps_prose : (state : State) (line : List ℕ) → IsUnseen state.gap → Keeps state line (step_prose state line)
keeps_prose state line unseen =
    let test = is_open state.current line && not (is_item line) in
    let on : Step = record { blocks = []; state = record { place = Body; current = Some (joined state.current line); gap = None } } in
    let new : Step = record { blocks = completed state; state = record { place = Body; current = Some (begun line); gap = None } } in
    cond_both test on new (Keeps state line)
    (λ is.
    let both = and_parts (is_open state.current line) (not (is_item line)) is in
    record { same = seen_joined state.current line (not-true (is_item line) both.1); unseen = tt })
    (λ _. record { same = ap (λ s. s ++ seen_open (Some (begun line))) (seen_completed state unseen) ∙ ap (λ s. seen_open state.current ++ s) (append-nil (seen_in (Filled (begun line))) ∙ seen_begun line); unseen = tt })

keeps_worded : (state : State) (line : List ℕ) (place : Option LinePlace) → IsUnseen state.gap → Keeps state line (step_worded state line place)
keeps_worded state line None unseen = keeps_prose state line unseen
keeps_worded state line (Some place) unseen = record {
  same =
      append-nil _ ∙ flat_map-append seen_in (completed state) (Line line ∷ [])
      ∙ ap (λ s. s ++ flat_map seen_in (Line line ∷ [])) (seen_completed state unseen)
      ∙ ap (λ s. seen_open state.current ++ s) (append-nil (seen line));
  unseen = tt;
}

keeps_step : (state : State) (line : List ℕ) → IsUnseen state.gap → Keeps state line (step state line)
keeps_step state line unseen =
    cond_both (is_empty_line state.place line) (step_empty state line) (step_worded state line (place_of_words state.place (is_open state.current line) line)) (Keeps state line)
    (λ is. let both = and_parts _ (list_all is_white (unquoted line)) is in keeps_empty state line unseen both.1)
    (λ _. keeps_worded state line (place_of_words state.place (is_open state.current line) line) unseen)

from_kept : (state : State) (lines : List (List ℕ)) → IsUnseen state.gap → flat_map seen_in (blocks_from state lines) ≡ seen_open state.current ++ flat_map seen lines
from_kept state [] unseen = sym (append-nil (seen_open state.current))
from_kept state (line ∷ lines) unseen =
    let taken = step state line in
    let keeps = keeps_step state line unseen in
    flat_map-append seen_in taken.blocks (blocks_from taken.state lines)
    ∙ ap (λ s. flat_map seen_in taken.blocks ++ s) (from_kept taken.state lines keeps.unseen)
    ∙ sym (append_assoc (flat_map seen_in taken.blocks) (seen_open taken.state.current) (flat_map seen lines))
    ∙ ap (λ s. s ++ flat_map seen lines) keeps.same
    ∙ append_assoc (seen_open state.current) (seen line) (flat_map seen lines)

-- ---- the lines of a text

seen_onto : (b : ℕ) (parts : List (List ℕ)) → flat_map seen (onto_first b parts) ≡ seen (b ∷ []) ++ flat_map seen parts
seen_onto b [] = refl
seen_onto b (part ∷ parts) =
    ap (λ s. s ++ flat_map seen parts) (seen-append (b ∷ []) part) ∙ append_assoc (seen (b ∷ [])) (seen part) (flat_map seen parts)

seen_split : (text : List ℕ) → flat_map seen (slice_split (λ b. b == 10) text) ≡ seen text
seen_split [] = refl
seen_split (b ∷ text) =
    let parts = slice_split (λ b. b == 10) text in
    cond_both (b == 10) ([] ∷ parts) (onto_first b parts) (λ ps. flat_map seen ps ≡ seen (b ∷ text))
    (λ feed. seen_split text ∙ sym (subst (λ c. seen (c ∷ text) ≡ seen text) (sym (eqb-true b 10 feed)) refl))
    (λ _. seen_onto b parts ∙ ap (λ s. seen (b ∷ []) ++ s) (seen_split text) ∙ sym (seen-append (b ∷ []) text))

seen_strip : (line : List ℕ) → seen (strip_carriage_return line) ≡ seen line
seen_strip [] = refl
seen_strip (b ∷ line) =
    let all = b ∷ line in
    let n = length all - 1 in
    cond_both (slice_index all n == 13) (take n all) all (λ l. seen l ≡ seen all)
    (λ is.
    let last : get_or all n 0 ≡ 13 = eqb-true (get_or all n 0) 13 is in
    let whole : all ≡ take n all ++ 13 ∷ [] =
    sym (take_all (n + 1) all (omega arith)) ∙ take_more all n 0 (omega arith) ∙ ap (λ c. take n all ++ c ∷ []) last in
    sym (ap seen whole ∙ seen-append (take n all) (13 ∷ []) ∙ append-nil (seen (take n all))))
    (λ _. refl)

seen_lines : (parts : List (List ℕ)) → flat_map seen (lines_of_parts parts) ≡ flat_map seen parts
seen_lines [] = refl
seen_lines (part ∷ []) =
    cond_both (length part == 0) [] (part ∷ []) (λ parts. flat_map seen parts ≡ seen part ++ [])
    (λ is. sym (ap (λ s. seen s ++ []) (nil_from_length part (eqb-true (length part) 0 is))))
    (λ _. refl)
seen_lines (part ∷ next ∷ more) = ap (λ s. s ++ flat_map seen (lines_of_parts (next ∷ more))) (seen_strip part) ∙ ap (λ s. seen part ++ s) (seen_lines (next ∷ more))

pub texts_kept : (text : List ℕ) → flat_map seen_in (blocks text) ≡ seen text
texts_kept text = from_kept start (lines_of_parts (slice_split (λ b. b == 10) text)) tt ∙ seen_lines (slice_split (λ b. b == 10) text) ∙ seen_split text
