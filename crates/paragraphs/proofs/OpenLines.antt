-- Words that are added to full lines.
use Rattle.std.proofs.Common.{◌≡◌, ℕ, ◌+◌, ◌-◌, ◌<◌, ◌≤◌, ◌&&◌, Bool, true, false, List, [], ◌∷◌, ◌++◌, length, map, drop, sym, ap, subst, refl, ◌∙◌, inl, inr, arith, append_assoc, append-nil, length-append, length-drop}
use Rattle.std.specs.List.{list_all, sum_by}
use Rattle.std.specs.String.{string_bytes}
use Rattle.std.proofs.lemmas.List.{length-map, map-append, drop-map, drop_all, get_or_append_left}
use Rattle.std.proofs.lemmas.List.Folds.{list_all-append}
use Rattle.std.proofs.lemmas.List.Sums.{sum_by-append, sum_by-cons}
use Rattle.hyphenation_breaks.specs.Break.{Break}
use Rattle.line_division.specs.declared.stretch.Stretch.{Stretch}
use Rattle.line_division.specs.Division.{MayStand}
use Rattle.line_division.specs.Greedy.{IsFurthest, AreFurthest}
use Rattle.line_division.specs.Lines.{no_stretch, stretch_at, joined_width, line_width}
use Rattle.paragraphs.specs.declared.full_lines.FullLines.{FullLines}
use Rattle.paragraphs.specs.Parts.{Style, word_parts, word_breaks, other_parts, parts_of}
use Rattle.paragraphs.specs.Private.Ends.{Rise}
use Rattle.paragraphs.specs.Private.FullLines.{AreFull, joined_columns, last_end, tail_width, EndsNarrow, IsOpen, Lead, IsAdded}
use Rattle.paragraphs.specs.Private.PartSettings.{setting_of, settings_of}
use Rattle.paragraphs.specs.Private.Printable.{is_printable}
use Rattle.paragraphs.specs.Settings.{Setting, stretch_of, line_text, lines_to, is_short, IsTooLong}
use Rattle.paragraphs.proofs.FullLines.{furthest_from, whole_width, narrow_width, settled}
use Rattle.paragraphs.proofs.LineTails.{tail_width_append}
use Rattle.paragraphs.proofs.Printable.{printable_columns, printable_columns_shown}
use Rattle.paragraphs.proofs.WholeWords.{rest_of, narrow_parts, whole_word, full_with_parts}

-- ---- lines that are set

-- The line from the last end but one to the last one is the last of all.
pub last_line : (ss : List Stretch) (columns start last : ℕ) (ends : List ℕ) → AreFurthest ss columns start (ends ++ last ∷ [])
    → (last_end start ends < length ss) × IsFurthest ss columns (last_end start ends) last × (last ≡ length ss)
last_line ss columns start last [] far = let after = far.0.after in (omega (arith, after, far.1), far.0, far.1)
last_line ss columns start last (end ∷ ends) far = last_line ss columns end last ends far.1

pub inner_rise : (ss : List Stretch) (columns start last : ℕ) (ends : List ℕ) → AreFurthest ss columns start (ends ++ last ∷ []) → Rise start (length ss) ends
inner_rise ss columns start last [] far = tt
inner_rise ss columns start last (end ∷ ends) far = (far.0.after, far.0.within, inner_rise ss columns end last ends far.1)

last_stands : (ss : List Stretch) (columns start last : ℕ) → IsFurthest ss columns start last → last ≡ length ss → MayStand (drop start ss) columns 0 (length (drop start ss))
last_stands ss columns start last far whole =
    let after = far.after in
    let n = last - start in
    let there : start + n ≡ last = omega (arith, after) in
    let count : n ≡ length (drop start ss) = omega (arith, whole, length-drop start ss) in
    let from = furthest_from ss columns start n (subst (IsFurthest ss columns start) (sym there) far) in
    subst (MayStand (drop start ss) columns 0) count from.stands

pub settled_lines : (old new : FullLines) (last : ℕ) (ends : List ℕ) → old.stretches.items ≡ map stretch_of (settings_of old.parts.items) → EndsNarrow (settings_of old.parts.items)
    → AreFurthest old.stretches.items old.columns 0 (ends ++ last ∷ []) → new.columns ≡ old.columns
    → map string_bytes new.lines.items ≡ map string_bytes old.lines.items ++ lines_to (settings_of old.parts.items) 0 ends
    → new.parts.items ≡ drop (last_end 0 ends) old.parts.items → new.stretches.items ≡ drop (last_end 0 ends) old.stretches.items
    → new.room ≡ old.columns + 1 - joined_columns new.stretches.items → IsAdded old new []
settled_lines old new last ends measured narrow far columns lines parts stretches room =
    let ps = settings_of old.parts.items in
    let start = last_end 0 ends in
    let end = last_line old.stretches.items old.columns 0 last ends far in
    let left : settings_of new.parts.items ≡ drop start ps = ap settings_of parts ∙ sym (drop-map setting_of start old.parts.items) in
    let some : 0 < length new.stretches.items = omega (arith, end.0, ap length stretches, length-drop start old.stretches.items) in
    record {
      columns = columns;
      leads = λ all rest lead later full.
          let there = subst (λ k. AreFull k (drop start ps ++ rest) later) columns (subst (λ s. AreFull new.columns (s ++ rest) later) left full) in
          let made = settled old.columns ps rest last ends later narrow (subst (λ s. AreFurthest s old.columns 0 (ends ++ last ∷ [])) measured far) there in
          let texts = sym (append_assoc (map string_bytes old.lines.items) (lines_to ps 0 ends) later) ∙ ap (λ s. s ++ later) (sym lines) in
          subst (λ k. AreFull k all (map string_bytes new.lines.items ++ later)) (sym columns) (subst (AreFull old.columns all) texts (lead (lines_to ps 0 ends ++ later) made));
      is_open = record {
        measured = stretches ∙ ap (drop start) measured ∙ drop-map stretch_of start ps ∙ ap (map stretch_of) (sym left);
        room = λ any. omega (arith, any, room, columns);
        some = λ _. some;
        stands = λ _.
            subst (λ s. MayStand s new.columns 0 (length s)) (sym stretches)
            (subst (λ k. MayStand (drop start old.stretches.items) k 0 (length (drop start old.stretches.items))) (sym columns) (last_stands old.stretches.items old.columns start last end.1 end.2));
      };
      some = some;
    }

-- ---- parts that are added

pub narrow_after : (ps qs : List Setting) → 0 < length qs → EndsNarrow qs → EndsNarrow (ps ++ qs)
narrow_after ps qs some narrow =
    let one = map stretch_of ps in
    let other = map stretch_of qs in
    let both = map-append stretch_of ps qs in
    let tail = ap tail_width both ∙ tail_width_append one other (omega (arith, some, length-map qs stretch_of)) in
    let sum = ap (sum_by joined_width) both ∙ sum_by-append joined_width one other in
    omega (arith, narrow, tail, sum)

pub lead_parts : (all added rest : List Setting) (old new : FullLines) → new.columns ≡ old.columns → new.lines ≡ old.lines → settings_of new.parts.items ≡ settings_of old.parts.items ++ added
    → Lead all old (added ++ rest) → Lead all new rest
lead_parts all added rest old new columns lines parts lead later full =
    let both = ap (λ s. s ++ rest) parts ∙ append_assoc (settings_of old.parts.items) added rest in
    let there = subst (λ k. AreFull k (settings_of old.parts.items ++ (added ++ rest)) later) columns (subst (λ s. AreFull new.columns s later) both full) in
    subst (λ k. AreFull k all (map string_bytes new.lines.items ++ later)) (sym columns) (subst (λ ls. AreFull old.columns all (map string_bytes ls.items ++ later)) (sym lines) (lead later there))

-- More parts, where there is still room after them.
joined_both : (ss more : List Stretch) → 0 < length ss → joined_columns (ss ++ more) ≡ joined_columns ss + sum_by joined_width more
joined_both ss more some =
    let first = ap (λ s. s.opening) (get_or_append_left ss more no_stretch 0 some) in
    let sum = sum_by-append joined_width ss more in
    omega (arith, first, sum)

pub added_parts : (old new : FullLines) (added : List Setting) → IsOpen old → 0 < length added → EndsNarrow added → new.columns ≡ old.columns → new.lines ≡ old.lines
    → settings_of new.parts.items ≡ settings_of old.parts.items ++ added → new.stretches.items ≡ old.stretches.items ++ map stretch_of added
    → new.room ≡ old.room - sum_by joined_width (map stretch_of added) → 0 < new.room → IsAdded old new added
added_parts old new added open_before some narrow columns lines parts stretches room any =
    let ss = old.stretches.items in
    let more = map stretch_of added in
    let room_before : 0 < old.room = omega (arith, room, any) in
    let some_before = open_before.some room_before in
    let within = open_before.room room_before in
    let measured : new.stretches.items ≡ map stretch_of (settings_of new.parts.items) =
    stretches ∙ ap (λ s. s ++ more) open_before.measured ∙ sym (map-append stretch_of (settings_of old.parts.items) added) ∙ ap (map stretch_of) (sym parts) in
    let joined = ap joined_columns stretches ∙ joined_both ss more some_before in
    let left : joined_columns new.stretches.items + new.room ≤ new.columns + 1 = omega (arith, joined, room, any, within, columns) in
    let count = ap length stretches ∙ length-append ss more in
    let some_now : 0 < length new.stretches.items = omega (arith, count, some_before) in
    let narrow_now = subst EndsNarrow (sym parts) (narrow_after (settings_of old.parts.items) added some narrow) in
    let wide = narrow_width (settings_of new.parts.items) (omega (arith, ap length measured, length-map (settings_of new.parts.items) stretch_of, some_now)) narrow_now in
    record {
      columns = columns;
      leads = λ all rest lead. lead_parts all added rest old new columns lines parts lead;
      is_open = record {
        measured = measured;
        room = λ _. left;
        some = λ _. some_now;
        stands = λ _. inl (omega (arith, left, any, subst (λ s. line_width s 0 (length s) ≤ joined_columns s) (sym measured) wide));
      };
      some = some_now;
    }

-- ---- a word that fits whole

pub added_whole : (old new : FullLines) (word : List ℕ) → IsOpen old → length word < old.room → list_all is_printable word ≡ true → new.columns ≡ old.columns → new.lines ≡ old.lines
    → settings_of new.parts.items ≡ settings_of old.parts.items ++ rest_of word [] 0 ∷ [] → new.stretches.items ≡ old.stretches.items ++ stretch_of (rest_of word [] 0) ∷ []
    → new.room ≡ old.room - (length word + 1) → (breaks_of : List ℕ → List Break) (style : Style) → IsAdded old new (word_parts breaks_of style style.indent word)
added_whole old new word open_before fits all_printable columns lines parts stretches room breaks_of style =
    let ps = settings_of old.parts.items in
    let ss = old.stretches.items in
    let whole = rest_of word [] 0 in
    let made = word_parts breaks_of style style.indent word in
    let room_before : 0 < old.room = omega (arith, fits) in
    let some_before = open_before.some room_before in
    let within = open_before.room room_before in
    let width = printable_columns_shown word all_printable in
    let none = printable_columns [] refl in
    let space = printable_columns_shown (32 ∷ []) refl in
    let some_parts : 0 < length ps = omega (arith, some_before, ap length open_before.measured, length-map ps stretch_of) in
    let known = ap joined_columns open_before.measured in
    let fit : (stretch_at (map stretch_of ps) 0).opening + (sum_by joined_width (map stretch_of ps) + tail_width (stretch_of whole ∷ [])) ≤ old.columns = omega (arith, known, within, fits, width, none) in
    let joined = ap joined_columns stretches ∙ joined_both ss (stretch_of whole ∷ []) some_before in
    let single = sum_by-cons joined_width (stretch_of whole) [] in
    let measured : new.stretches.items ≡ map stretch_of (settings_of new.parts.items) =
    stretches ∙ ap (λ s. s ++ stretch_of whole ∷ []) open_before.measured ∙ sym (map-append stretch_of ps (whole ∷ [])) ∙ ap (map stretch_of) (sym parts) in
    let some_now : 0 < length new.stretches.items = omega (arith, ap length stretches, length-append ss (stretch_of whole ∷ [])) in
    let first = ap (λ s. s.opening) (get_or_append_left ss (stretch_of whole ∷ []) no_stretch 0 some_before) in
    let tail = tail_width_append ss (stretch_of whole ∷ []) (omega arith) in
    let wide = whole_width (ss ++ stretch_of whole ∷ []) (omega (arith, length-append ss (stretch_of whole ∷ []))) in
    let here : line_width (ss ++ stretch_of whole ∷ []) 0 (length (ss ++ stretch_of whole ∷ [])) ≤ new.columns = omega (arith, first, tail, wide, within, fits, width, none, columns) in
    record {
      columns = columns;
      leads = λ all rest lead later full.
          let both = ap (λ s. s ++ rest) parts ∙ append_assoc ps (whole ∷ []) rest in
          let there = subst (λ k. AreFull k (ps ++ (whole ∷ rest)) later) columns (subst (λ s. AreFull new.columns s later) both full) in
          let with_parts = full_with_parts old.columns ps made rest whole later some_parts (narrow_parts style word style.indent 0 (word_breaks breaks_of word)).0 (whole_word breaks_of style [] style.indent word all_printable) fit there in
          subst (λ k. AreFull k all (map string_bytes new.lines.items ++ later)) (sym columns) (subst (λ ls. AreFull old.columns all (map string_bytes ls.items ++ later)) (sym lines) (lead later with_parts));
      is_open = record {
        measured = measured;
        room = λ any. omega (arith, any, joined, single, room, within, columns, width, space);
        some = λ _. some_now;
        stands = λ _. inl (subst (λ s. line_width s 0 (length s) ≤ new.columns) (sym stretches) here);
      };
      some = some_now;
    }

-- ---- the last line

pub closed : (full : FullLines) (last : List ℕ) → IsOpen full → 0 < length full.stretches.items → last ≡ line_text (settings_of full.parts.items) 0 (length full.parts.items)
    → AreFull full.columns (settings_of full.parts.items ++ []) (last ∷ [])
closed full last is_open some text =
    let ps = settings_of full.parts.items in
    let count = ap length is_open.measured in
    let same : length full.stretches.items ≡ length ps = omega (arith, count, length-map ps stretch_of) in
    let alone : AreFull full.columns ps (last ∷ []) = (
      length ps,
      record {
        after = omega (arith, some, same);
        within = omega (arith, length-map ps stretch_of);
        stands = subst (MayStand (map stretch_of ps) full.columns 0) same (subst (λ ss. MayStand ss full.columns 0 (length full.stretches.items)) is_open.measured (is_open.stands some));
        furthest = λ later past inside fit. omega (arith, inside, length-map ps stretch_of);
      },
      text ∙ ap (line_text ps 0) (sym (length-map full.parts.items setting_of)),
      drop_all (length ps) ps (omega arith),
    ) in
    subst (λ s. AreFull full.columns s (last ∷ [])) (sym (append-nil ps)) alone

-- ---- all lines

pub all_full : (all one others : List Setting) (none first full : FullLines) (columns : ℕ) (lines : List (List ℕ)) → all ≡ one ++ others → none.parts.items ≡ [] → none.lines.items ≡ [] → none.columns ≡ columns
    → IsAdded none first one → IsAdded first full others → ((any : List Setting) → Lead any full [] → AreFull full.columns any lines) → AreFull columns all lines
all_full all one others none first full columns lines is no_parts no_lines wide begun added close =
    let start : Lead all none (one ++ others) = λ later here.
    subst (λ ls. AreFull none.columns all (map string_bytes ls ++ later)) (sym no_lines)
    (subst (λ s. AreFull none.columns s later) (sym is) (subst (λ ps. AreFull none.columns (settings_of ps ++ (one ++ others)) later) no_parts here)) in
    let rest = begun.leads all others start in
    let made = close all (added.leads all [] (subst (Lead all first) (sym (append-nil others)) rest)) in
    subst (λ k. AreFull k all lines) (added.columns ∙ begun.columns ∙ wide) made

and_false : (b : Bool) → (b && false) ≡ false
and_false true = refl
and_false false = refl

-- Parts are not all short where some of them are not.
pub long_first : (one others : List Setting) → list_all is_short one ≡ false → list_all is_short (one ++ others) ≡ false
long_first one others long = list_all-append is_short one others ∙ ap (λ t. t && list_all is_short others) long

pub long_others : (one others : List Setting) → list_all is_short others ≡ false → list_all is_short (one ++ others) ≡ false
long_others one others long = list_all-append is_short one others ∙ ap (λ t. list_all is_short one && t) long ∙ and_false (list_all is_short one)

pub too_long_first : (breaks_of : List ℕ → List Break) (style : Style) (words rest : List (List ℕ)) (first : List ℕ) → words ≡ first ∷ rest
    → list_all is_short (word_parts breaks_of style style.first first) ≡ false → IsTooLong (parts_of breaks_of style words)
too_long_first breaks_of style words rest first is long =
    inr (ap (λ ws. list_all is_short (parts_of breaks_of style ws)) is ∙ long_first (word_parts breaks_of style style.first first) (other_parts breaks_of style rest) long)

pub too_long_others : (breaks_of : List ℕ → List Break) (style : Style) (words rest : List (List ℕ)) (first : List ℕ) → words ≡ first ∷ rest
    → list_all is_short (other_parts breaks_of style rest) ≡ false → IsTooLong (parts_of breaks_of style words)
too_long_others breaks_of style words rest first is long =
    inr (ap (λ ws. list_all is_short (parts_of breaks_of style ws)) is ∙ long_others (word_parts breaks_of style style.first first) (other_parts breaks_of style rest) long)
