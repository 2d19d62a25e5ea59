-- Lines that hold as much as fits.
use Rattle.std.proofs.Common.{◌≡◌, ℕ, suc, ◌+◌, ◌-◌, ◌<◌, ◌≤◌, List, [], ◌∷◌, ◌++◌, length, map, take, drop, sym, ap, ap₂, subst, refl, ◌∙◌, inl, inr, arith, length-append, length-drop}
use Rattle.std.specs.List.{flat_map, sum_by, slice_range, slice_index_or}
use Rattle.std.proofs.lemmas.Bool.{cases_lt}
use Rattle.std.proofs.lemmas.List.{length-map, map-append, drop-map, drop-drop, get_or-drop, get_or_append_left, take-append-le, drop-append-le, take-append-drop, take_all, length-take}
use Rattle.std.proofs.lemmas.List.Sums.{sum_by-append}
use Rattle.line_division.specs.declared.stretch.Stretch.{Stretch}
use Rattle.line_division.specs.Division.{Divides, FitsIfAny, IsFewest}
use Rattle.line_division.specs.Greedy.{IsFurthest, AreFurthest, IsOrderly}
use Rattle.line_division.specs.Lines.{no_stretch, stretch_at, joined_width, line_width}
use Rattle.paragraphs.specs.Aims.{IsSet}
use Rattle.paragraphs.specs.declared.setting.Aim.TheVariants.{Full}
use Rattle.paragraphs.specs.Settings.{Setting, no_setting, stretch_of, shown_text, last_text, line_text, lines_to}
use Rattle.paragraphs.specs.Private.FullLines.{AreFull, joined_columns, last_end, tail_width, EndsNarrow}
use Rattle.paragraphs.proofs.LineTails.{tail_width_append, line_width_tail}
use Rattle.paragraphs.proofs.SetLines.{whole_from}

-- ---- a line that begins later is the first one of the parts from there on

line_from : {X Y : Type 0} (F : X → List X → X → Y) (xs : List X) (d : X) (start n : ℕ) → 0 < n
    → F (slice_index_or (drop start xs) 0 d) (slice_range (drop start xs) 0 (n - 1)) (slice_index_or (drop start xs) (n - 1) d)
    ≡ F (slice_index_or xs start d) (slice_range xs start (start + n - 1)) (slice_index_or xs (start + n - 1) d)
line_from F xs d start n some =
    let from = drop start xs in
    let first : slice_index_or from 0 d ≡ slice_index_or xs start d = get_or-drop start xs 0 d ∙ ap (λ k. slice_index_or xs k d) (omega arith) in
    let last : slice_index_or from (n - 1) d ≡ slice_index_or xs (start + n - 1) d = get_or-drop start xs (n - 1) d ∙ ap (λ k. slice_index_or xs k d) (omega (arith, some)) in
    let count : n - 1 - 0 ≡ start + n - 1 - start = omega (arith, some) in
    ap (λ f. F f (slice_range from 0 (n - 1)) (slice_index_or from (n - 1) d)) first
    ∙ ap (λ k. F (slice_index_or xs start d) (take k from) (slice_index_or from (n - 1) d)) count
    ∙ ap (F (slice_index_or xs start d) (slice_range xs start (start + n - 1))) last

width_from : (ss : List Stretch) (start n : ℕ) → 0 < n → line_width (drop start ss) 0 n ≡ line_width ss start (start + n)
width_from ss start n some = line_from (λ f between l. f.opening + sum_by joined_width between + l.width + l.closing) ss no_stretch start n some

text_from : (ps : List Setting) (start n : ℕ) → 0 < n → line_text (drop start ps) 0 n ≡ line_text ps start (start + n)
text_from ps start n some = line_from (λ f between l. f.opening ++ flat_map shown_text between ++ last_text l) ps no_setting start n some

pub furthest_from : (ss : List Stretch) (columns start n : ℕ) → IsFurthest ss columns start (start + n) → IsFurthest (drop start ss) columns 0 n
furthest_from ss columns start n far =
    let after = far.after in
    let inside = far.within in
    record {
      after = omega (arith, after);
      within = omega (arith, inside, length-drop start ss);
      stands = elim far.stands [
        | inl fit ↦ inl (omega (arith, fit, width_from ss start n (omega (arith, after))))
        | inr alone ↦ inr (omega (arith, alone))
      ];
      furthest = λ later past short fit.
          let up = far.furthest (start + later) (omega (arith, past)) (omega (arith, short, past, length-drop start ss)) (omega (arith, fit, width_from ss start later past)) in
          omega (arith, up);
    }

furthest_at : (ss : List Stretch) (columns start n : ℕ) → start ≤ length ss → IsFurthest (drop start ss) columns 0 n → IsFurthest ss columns start (start + n)
furthest_at ss columns start n begun far =
    let after = far.after in
    let inside = far.within in
    record {
      after = omega (arith, after);
      within = omega (arith, inside, begun, length-drop start ss);
      stands = elim far.stands [
        | inl fit ↦ inl (omega (arith, fit, width_from ss start n after))
        | inr alone ↦ inr (omega (arith, alone))
      ];
      furthest = λ later past short fit.
          let more = later - start in
          let there : start + more ≡ later = omega (arith, past) in
          let some : 0 < more = omega (arith, past) in
          let same = width_from ss start more some ∙ ap (line_width ss start) there in
          let up = far.furthest more some (omega (arith, short, length-drop start ss)) (omega (arith, fit, same)) in
          omega (arith, up, there);
    }

-- Full lines are those to a row of furthest ends.
full_row : (columns : ℕ) (all : List Setting) (start : ℕ) (texts : List (List ℕ)) → start ≤ length all → AreFull columns (drop start all) texts
    → (row : List ℕ) × AreFurthest (map stretch_of all) columns start row × (texts ≡ lines_to all start row)
full_row columns all start [] within full =
    let none : start ≡ length (map stretch_of all) = omega (arith, within, ap length full, length-drop start all, length-map all stretch_of) in
    ([], none, refl)
full_row columns all start (text ∷ texts) within full =
    let n = full.0 in
    let end = start + n in
    let ss = map stretch_of all in
    let far = furthest_at ss columns start n (omega (arith, within, length-map all stretch_of)) (subst (λ s. IsFurthest s columns 0 n) (sym (drop-map stretch_of start all)) full.1) in
    let inside = far.within in
    let after = full.1.after in
    let rest = full_row columns all end texts (omega (arith, inside, length-map all stretch_of)) (subst (λ ps. AreFull columns ps texts) (drop-drop n start all) full.3) in
    (end ∷ rest.0, (far, rest.1), ap₂ (λ t ts. t ∷ ts) (full.2 ∙ text_from all start n after) rest.2)

-- The law of furthest ends.
pub record FurthestLaw : Type 0 where
  pub divide : (stretches : List Stretch) (columns : ℕ) (row : List ℕ) → AreFurthest stretches columns 0 row → Divides stretches columns 0 row
  pub fewest : (stretches : List Stretch) (columns : ℕ) (row : List ℕ) → AreFurthest stretches columns 0 row → IsOrderly stretches → IsFewest stretches columns row
  pub fit : (stretches : List Stretch) (columns : ℕ) (row : List ℕ) → AreFurthest stretches columns 0 row → IsOrderly stretches → FitsIfAny stretches columns row

pub full_set : FurthestLaw → (columns : ℕ) (all : List Setting) (lines : List (List ℕ)) → AreFull columns all lines → IsSet Full all columns lines
full_set law columns all lines full =
    let ss = map stretch_of all in
    let made = full_row columns all 0 lines (omega arith) full in
    let divides = law.divide ss columns made.0 made.1 in
    record {
      row = made.0;
      aimed = record { divides = divides; furthest = made.1; fewest = law.fewest ss columns made.0 made.1; fits = law.fit ss columns made.0 made.1 };
      text = made.2;
      whole = whole_from all ss columns 0 made.0 (length-map all stretch_of) divides;
    }

-- ---- more parts after a line that does not hold all parts before them

line_within : {X Y : Type 0} (F : X → List X → X → Y) (xs ys : List X) (d : X) (n : ℕ) → 0 < n → n ≤ length xs
    → F (slice_index_or (xs ++ ys) 0 d) (slice_range (xs ++ ys) 0 (n - 1)) (slice_index_or (xs ++ ys) (n - 1) d)
    ≡ F (slice_index_or xs 0 d) (slice_range xs 0 (n - 1)) (slice_index_or xs (n - 1) d)
line_within F xs ys d n some within =
    ap (λ f. F f (slice_range (xs ++ ys) 0 (n - 1)) (slice_index_or (xs ++ ys) (n - 1) d)) (get_or_append_left xs ys d 0 (omega (arith, some, within)))
    ∙ ap (λ s. F (slice_index_or xs 0 d) s (slice_index_or (xs ++ ys) (n - 1) d)) (take-append-le (n - 1 - 0) xs ys (omega (arith, within)))
    ∙ ap (F (slice_index_or xs 0 d) (slice_range xs 0 (n - 1))) (get_or_append_left xs ys d (n - 1) (omega (arith, some, within)))

width_within : (ss rest : List Stretch) (n : ℕ) → 0 < n → n ≤ length ss → line_width (ss ++ rest) 0 n ≡ line_width ss 0 n
width_within ss rest n some within = line_within (λ f between l. f.opening + sum_by joined_width between + l.width + l.closing) ss rest no_stretch n some within

text_within : (ps rest : List Setting) (n : ℕ) → 0 < n → n ≤ length ps → line_text (ps ++ rest) 0 n ≡ line_text ps 0 n
text_within ps rest n some within = line_within (λ f between l. f.opening ++ flat_map shown_text between ++ last_text l) ps rest no_setting n some within

pub take_past : {X : Type 0} (xs ys : List X) (n : ℕ) → take (length xs + n) (xs ++ ys) ≡ xs ++ take n ys
take_past [] ys n = ap (λ k. take k ys) (omega arith)
take_past (x ∷ xs) ys n = let count : length (x ∷ xs) + n ≡ suc (length xs + n) = omega arith in ap (λ k. take k (x ∷ xs ++ ys)) count ∙ ap (λ s. x ∷ s) (take_past xs ys n)

-- A line past some stretches has no fewer columns than they have.
width_past : (ss rest : List Stretch) (later : ℕ) → 0 < length ss → length ss < later → later ≤ length (ss ++ rest) → joined_columns ss ≤ line_width (ss ++ rest) 0 later
width_past ss rest later some past within =
    let more = later - length ss in
    let count : later ≡ length ss + more = omega (arith, past) in
    let taken : take later (ss ++ rest) ≡ ss ++ take more rest = ap (λ n. take n (ss ++ rest)) count ∙ take_past ss rest more in
    let first = ap (λ s. s.opening) (get_or_append_left ss rest no_stretch 0 some) in
    let tail = line_width_tail (ss ++ rest) later (omega (arith, past)) within in
    let here = ap tail_width taken ∙ tail_width_append ss (take more rest) (omega (arith, past, within, length-append ss rest, length-take more rest)) in
    omega (arith, first, tail, here)

-- The line of all parts.
pub whole_width : (ss : List Stretch) → 0 < length ss → line_width ss 0 (length ss) ≡ (stretch_at ss 0).opening + tail_width ss
whole_width ss some = line_width_tail ss (length ss) some (omega arith) ∙ ap (λ s. (stretch_at ss 0).opening + tail_width s) (take_all (length ss) ss (omega arith))

pub narrow_width : (ps : List Setting) → 0 < length ps → EndsNarrow ps → line_width (map stretch_of ps) 0 (length (map stretch_of ps)) ≤ joined_columns (map stretch_of ps)
narrow_width ps some narrow =
    let whole = whole_width (map stretch_of ps) (omega (arith, some, length-map ps stretch_of)) in
    omega (arith, narrow, whole)

-- The furthest end stays so where parts come after it and after all of these.
furthest_with : (ps rest : List Setting) (columns n : ℕ) → EndsNarrow ps → n < length ps → IsFurthest (map stretch_of ps) columns 0 n → IsFurthest (map stretch_of (ps ++ rest)) columns 0 n
furthest_with ps rest columns n narrow inner far =
    let ss = map stretch_of ps in
    let others = map stretch_of rest in
    let count = length-map ps stretch_of in
    let after = far.after in
    let with_others : IsFurthest (ss ++ others) columns 0 n = record {
      after = after;
      within = omega (arith, inner, count, length-append ss others);
      stands = elim far.stands [
        | inl fit ↦ inl (omega (arith, fit, width_within ss others n after (omega (arith, inner, count))))
        | inr alone ↦ inr alone
      ];
      furthest = λ later past inside fit. elim (cases_lt (length ss) later) [
        | inr among ↦ far.furthest later past among (omega (arith, fit, width_within ss others later past among))
        | inl beyond ↦
            let wide = width_past ss others later (omega (arith, inner, count)) beyond inside in
            let whole = narrow_width ps (omega (arith, inner)) narrow in
            let up = far.furthest (length ss) (omega (arith, inner, count)) (omega arith) (omega (arith, fit, wide, whole)) in
            absurd (omega (arith, up, inner, count))
      ];
    } in
    subst (λ s. IsFurthest s columns 0 n) (sym (map-append stretch_of ps rest)) with_others

-- The parts from one on end narrow, if all do.
narrow_from : (ps : List Setting) (start : ℕ) → start < length ps → EndsNarrow ps → EndsNarrow (drop start ps)
narrow_from ps start lt narrow =
    let ss = map stretch_of ps in
    let from = map stretch_of (drop start ps) in
    let some : 0 < length from = omega (arith, lt, length-drop start ps, length-map (drop start ps) stretch_of) in
    let parted : take start ss ++ from ≡ ss = ap (λ s. take start ss ++ s) (sym (drop-map stretch_of start ps)) ∙ take-append-drop start ss in
    let sum = ap (sum_by joined_width) (sym parted) ∙ sum_by-append joined_width (take start ss) from in
    let tail = ap tail_width (sym parted) ∙ tail_width_append (take start ss) from some in
    omega (arith, narrow, sum, tail)

inner_end : (ss : List Stretch) (columns start last : ℕ) (ends : List ℕ) → AreFurthest ss columns start (ends ++ last ∷ []) → start < length ss
inner_end ss columns start last [] far = omega (arith, far.0.after, far.0.within)
inner_end ss columns start last (end ∷ ends) far = omega (arith, far.0.after, far.0.within)

-- The lines to all ends but the last one, before full lines of the other parts and of those to come, are full lines of all.
settled_from : (columns : ℕ) (ps rest : List Setting) (start last : ℕ) (ends : List ℕ) (later : List (List ℕ)) → EndsNarrow ps → AreFurthest (map stretch_of ps) columns start (ends ++ last ∷ [])
    → AreFull columns (drop (last_end start ends) ps ++ rest) later → AreFull columns (drop start ps ++ rest) (lines_to ps start ends ++ later)
settled_from columns ps rest start last [] later narrow far full = full
settled_from columns ps rest start last (end ∷ ends) later narrow far full =
    let ss = map stretch_of ps in
    let count = length-map ps stretch_of in
    let after = far.0.after in
    let inner = inner_end ss columns end last ends far.1 in
    let n = end - start in
    let there : start + n ≡ end = omega (arith, after) in
    let some : 0 < n = omega (arith, after) in
    let from = drop start ps in
    let short : n < length from = omega (arith, after, inner, count, length-drop start ps) in
    let here : IsFurthest (map stretch_of from) columns 0 n =
    subst (λ s. IsFurthest s columns 0 n) (drop-map stretch_of start ps) (furthest_from ss columns start n (subst (IsFurthest ss columns start) (sym there) far.0)) in
    let left : drop n (from ++ rest) ≡ drop end ps ++ rest =
    drop-append-le n from rest (omega (arith, short)) ∙ ap (λ s. s ++ rest) (drop-drop n start ps ∙ ap (λ k. drop k ps) there) in
    let next = settled_from columns ps rest end last ends later narrow far.1 full in (
      n,
      furthest_with from rest columns n (narrow_from ps start (omega (arith, after, inner, count)) narrow) short here,
      ap (line_text ps start) (sym there) ∙ sym (text_from ps start n some) ∙ sym (text_within from rest n some (omega (arith, short))),
      subst (λ s. AreFull columns s (lines_to ps end ends ++ later)) (sym left) next,
    )

pub settled : (columns : ℕ) (ps rest : List Setting) (last : ℕ) (ends : List ℕ) (later : List (List ℕ)) → EndsNarrow ps → AreFurthest (map stretch_of ps) columns 0 (ends ++ last ∷ [])
    → AreFull columns (drop (last_end 0 ends) ps ++ rest) later → AreFull columns (ps ++ rest) (lines_to ps 0 ends ++ later)
settled columns ps rest last ends later narrow far full = settled_from columns ps rest 0 last ends later narrow far full
