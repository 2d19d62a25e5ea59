-- Kept breaks, carried back, fit the word as written.
use Rattle.std.proofs.Common.{◌≡◌, ℕ, zero, suc, ◌+◌, ◌-◌, ◌<◌, ◌≤◌, ◌^◌, ◌&&◌, ◌||◌, not, Bool, true, false, cond, nat_le, nat_lt, le-leb, lt-ltb, leb-true, ltb-true, ltb-false, List, [], ◌∷◌, ◌++◌, length, map, filter, chars, take, refl, sym, ap, subst, ◌∙◌, arith, add-zero}
use Rattle.std.specs.Char.{encode_utf8}
use Rattle.std.specs.List as lists
use Rattle.std.specs.List.{slice_index, list_any, range_with_len}
use Rattle.std.specs.Prelude.{All}
use Rattle.std.specs.Str.{IsUtf8, IsCharBoundary}
use Rattle.std.proofs.lemmas.Bool.{and_parts, not-true, and_from}
use Rattle.std.proofs.lemmas.List.{append-nil, get_or-map, append_assoc}
use Rattle.std.proofs.lemmas.List.Elements.{All-nil, All-cons}
use Rattle.std.proofs.lemmas.List.Folds.{list_all-append, list_any_at}
use Rattle.std.proofs.lemmas.Str.{IsCharBoundary-start}
use Rattle.std.proofs.lemmas.List.FromFn.{get_or-range_with_len, length-range_with_len}
use Rattle.hyphenation_hyphenator.proofs.Shifts.{equal_from_not}
use Rattle.hyphenation_breaks.specs.Break.{Break, break_at, left_of, right_of, begin_of, end_of}
use Rattle.hyphenation_segments.specs.Fits.{Fits, FitsFrom, BreakFitsAfter}
use Rattle.hyphenation_hyphenator.specs.Fitting.{holds_length_change, range_keeps_lengths, is_after, keep_break, kept_breaks, fitted_breaks, KeepsRange}
use Rattle.hyphenation_hyphenator.specs.Private.Fitting.{holds_shift, range_holds_no_shift}
use Rattle.hyphenation_hyphenator.specs.Folding.{fold_character, fold_case, carried_back, changes_length, shift_of, shifts_of}
use Rattle.hyphenation_hyphenator.specs.Opportunities.{break_carried_back, Ascending}
use Rattle.hyphenation_hyphenator.specs.Private.Opportunities.{realigned_break}
use Rattle.hyphenation_hyphenator.specs.Places.{place_of_character}
use Rattle.hyphenation_hyphenator.proofs.Folds.{chars_of_fold, fold_is_utf8, as_many_characters, carried_is_boundary, carried_rises, carried_start}
use Rattle.hyphenation_hyphenator.proofs.Places.{place_more, place_keeps_order, place_rises, place_of_boundary, boundary_within}
use Rattle.hyphenation_hyphenator.proofs.RulesAscend.{AscendFrom, ascend_earlier, from_ascending}
use Rattle.hyphenation_hyphenator.proofs.Standard.{realigned_boundary}

-- ---- the same breaks, kept with only the end of the last range

-- The breaks that are kept after an end.
abbrev pub kept_from : (Break → Bool) → ℕ → List Break → List Break
kept_from test last_end [] = []
kept_from test last_end (b ∷ bs) = cond (test b && nat_le last_end (begin_of b)) (b ∷ kept_from test (end_of b) bs) (kept_from test last_end bs)

-- A break is after the ranges of all kept breaks exactly where it begins at this end or later.
abbrev pub EndsAt : List Break → ℕ → Type 0
EndsAt kept last_end = (b : Break) → is_after kept b ≡ nat_le last_end (begin_of b)

pub ends_at_start : EndsAt [] 0
ends_at_start b = sym (le-leb 0 (begin_of b) (omega arith))

later_end : (last_end begin other_end x : ℕ) → last_end ≤ begin → begin ≤ other_end → (nat_le last_end x && (nat_le other_end x && true)) ≡ nat_le other_end x
later_end last_end begin other_end x h k =
    elim (nat_le other_end x) as (λ t. nat_le other_end x ≡ t → (nat_le last_end x && (t && true)) ≡ t) [
      | true ↦ λ e. let l = leb-true other_end x e in ap (λ t. t && (true && true)) (le-leb last_end x (omega arith))
      | false ↦ λ e. elim (nat_le last_end x) as (λ t. (t && (false && true)) ≡ false) [ true ↦ refl | false ↦ refl ]
    ] refl

pub ends_at_next : (kept : List Break) (last_end : ℕ) (b : Break) → EndsAt kept last_end → last_end ≤ begin_of b → EndsAt (kept ++ b ∷ []) (end_of b)
ends_at_next kept last_end b ends h other =
    list_all-append (λ k. nat_le (end_of k) (begin_of other)) kept (b ∷ [])
    ∙ ap (λ t. t && (nat_le (end_of b) (begin_of other) && true)) (ends other)
    ∙ later_end last_end (begin_of b) (end_of b) (begin_of other) h (omega arith)

pub kept_with_end : (test : Break → Bool) (kept : List Break) (last_end : ℕ) (breaks : List Break) → EndsAt kept last_end → lists.fold (keep_break test) kept breaks ≡ kept ++ kept_from test last_end breaks
kept_with_end test kept last_end [] ends = sym (append-nil kept)
kept_with_end test kept last_end (b ∷ bs) ends =
    let passes = test b && nat_le last_end (begin_of b) in
    ap (λ t. lists.fold (keep_break test) (cond (test b && t) (kept ++ b ∷ []) kept) bs) (ends b)
    ∙ elim passes as (λ t. passes ≡ t → lists.fold (keep_break test) (cond t (kept ++ b ∷ []) kept) bs ≡ kept ++ cond t (b ∷ kept_from test (end_of b) bs) (kept_from test last_end bs)) [
      | true ↦ λ e. kept_with_end test (kept ++ b ∷ []) (end_of b) bs (ends_at_next kept last_end b ends (leb-true last_end (begin_of b) (and_parts (test b) (nat_le last_end (begin_of b)) e).1)) ∙ append_assoc kept (b ∷ []) (kept_from test (end_of b) bs)
      | false ↦ λ e. kept_with_end test kept last_end bs ends
    ] refl

pub kept_is : (test : Break → Bool) (breaks : List Break) → kept_breaks test breaks ≡ kept_from test 0 breaks
unfolding kept_breaks
kept_is test breaks = kept_with_end test [] 0 breaks ends_at_start

-- ---- ranges that hold no character whose number of bytes changes

-- A character that keeps its number of bytes takes as many in both words.
step_even : (word : List ℕ) (j : ℕ) → IsUtf8 word → j < length (chars word) → changes_length word j ≡ false
    → place_of_character (fold_case word) (j + 1) + place_of_character word j ≡ place_of_character word (j + 1) + place_of_character (fold_case word) j
step_even word j u h e =
    let c = slice_index (chars word) j in
    let folded_c : slice_index (chars (fold_case word)) j ≡ fold_character c = ap (λ cs. slice_index cs j) (chars_of_fold word u) ∙ get_or-map fold_character (chars word) j 0 0 h in
    let wide : length (encode_utf8 (slice_index (chars (fold_case word)) j)) ≡ length (encode_utf8 c) = ap (λ d. length (encode_utf8 d)) folded_c ∙ equal_from_not _ _ e in
    let folded_more = place_more (fold_case word) j (omega (arith, as_many_characters word u)) in
    let more = place_more word j h in
    omega arith

run_even : (word : List ℕ) (i m : ℕ) → IsUtf8 word → i + m ≤ length (chars word) → ((j : ℕ) → i ≤ j → j < i + m → changes_length word j ≡ false)
    → place_of_character (fold_case word) (i + m) + place_of_character word i ≡ place_of_character word (i + m) + place_of_character (fold_case word) i
run_even word i zero u l h = rw add-zero (omega arith)
run_even word i (suc m) u l h =
    let before = run_even word i m u (omega arith) (λ j a b. h j a (omega arith)) in
    let one = step_even word (i + m) u (omega arith) (h (i + m) (omega arith) (omega arith)) in
    let k : (i + m) + 1 ≡ i + suc m = omega arith in
    subst (λ n. place_of_character (fold_case word) n + place_of_character word i ≡ place_of_character word n + place_of_character (fold_case word) i) k (omega arith)

-- No character of the range changes its number of bytes.
none_held : (word : List ℕ) (begin end j : ℕ) → holds_length_change word begin end ≡ false → j < length (chars word) → begin ≤ place_of_character (fold_case word) j → place_of_character (fold_case word) j < end → changes_length word j ≡ false
none_held word begin end j h l a b =
    let n = length (chars word) in
    let test : ℕ → Bool = λ j. changes_length word j && (nat_le begin (place_of_character (fold_case word) j) && nat_lt (place_of_character (fold_case word) j) end) in
    let at : slice_index (range_with_len 0 n) j ≡ j = get_or-range_with_len 0 n j 0 l ∙ omega arith in
    elim (changes_length word j) as (λ t. changes_length word j ≡ t → changes_length word j ≡ false) [
      | true ↦ λ e.
          let here : test j ≡ true = and_from _ _ e (and_from _ _ (le-leb _ _ a) (lt-ltb _ _ b)) in
          let held : list_any test (range_with_len 0 n) ≡ true = list_any_at test (range_with_len 0 n) j 0 (omega (arith, length-range_with_len 0 n)) (ap test at ∙ here) in
          let no : true ≡ false = sym held ∙ h in absurd cc
      | false ↦ λ e. e
    ] refl

-- A range that holds no character whose number of bytes changes takes as many bytes in the word as written.
pub even_range : (word : List ℕ) (begin end : ℕ) → IsUtf8 word → IsCharBoundary (fold_case word) begin → IsCharBoundary (fold_case word) end → begin ≤ end
    → ((j : ℕ) → j < length (chars word) → begin ≤ place_of_character (fold_case word) j → place_of_character (fold_case word) j < end → changes_length word j ≡ false)
    → carried_back word end + begin ≡ carried_back word begin + end
even_range word begin end u a b h none =
    let folded = fold_case word in
    let w = fold_is_utf8 word u in
    let i = length (chars (take begin folded)) in
    let j = length (chars (take end folded)) in
    let i_at : begin ≡ place_of_character folded i = place_of_boundary folded begin w a in
    let j_at : end ≡ place_of_character folded j = place_of_boundary folded end w b in
    let i_in : i ≤ length (chars folded) = boundary_within folded begin w a in
    let j_in : j ≤ length (chars folded) = boundary_within folded end w b in
    let count = as_many_characters word u in
    let order : i ≤ j = elim (nat_lt j i) as (λ t. nat_lt j i ≡ t → i ≤ j) [
      | true ↦ λ e. let back = place_rises folded j i (ltb-true j i e) i_in in absurd (omega arith)
      | false ↦ λ e. ltb-false j i e
    ] refl in
    let sum : i + (j - i) ≡ j = omega arith in
    let run = run_even word i (j - i) u (omega arith) (λ k l m.
    none k (omega arith) (let o = place_keeps_order folded i k l (omega arith) in omega arith) (let o = place_rises folded k j (omega arith) j_in in omega arith)) in
    let even : place_of_character folded j + place_of_character word i ≡ place_of_character word j + place_of_character folded i = subst (λ n. place_of_character folded n + place_of_character word i ≡ place_of_character word n + place_of_character folded i) sum run in
    omega arith

-- ---- kept breaks fit

-- Where the range of a break lies in the text, its ends are boundaries.
abbrev pub Ranged : List ℕ → Break → Type 0
Ranged text b = left_of b.change ≤ b.place → end_of b ≤ length text → IsCharBoundary text (begin_of b) × IsCharBoundary text (end_of b)

abbrev pub AreRanged : List ℕ → List Break → Type 0
AreRanged text [] = Unit {0}
AreRanged text (b ∷ bs) = Ranged text b × AreRanged text bs

-- The range of a break, carried back, is the range of the break carried back. Both its ends are boundaries.
pub record CarriesRange (word : List ℕ) (b : Break) : Type 0 where
  pub left : left_of b.change ≤ b.place
  pub begin_at : IsCharBoundary (fold_case word) (begin_of b)
  pub end_at : IsCharBoundary (fold_case word) (end_of b)
  pub begin : carried_back word (begin_of b) + left_of b.change ≡ carried_back word b.place
  pub end : carried_back word (end_of b) ≡ carried_back word b.place + right_of b.change

pub range_carried : (word : List ℕ) (b : Break) → IsUtf8 word → IsCharBoundary (fold_case word) b.place → Ranged (fold_case word) b → range_keeps_lengths word b ≡ true → CarriesRange word b
range_carried word b u at ranged steady =
    let all = and_parts (nat_le (left_of b.change) b.place && nat_le (end_of b) (length (fold_case word))) (not (holds_length_change word (begin_of b) (end_of b))) steady in
    let two = and_parts (nat_le (left_of b.change) b.place) (nat_le (end_of b) (length (fold_case word))) all.0 in
    let left : left_of b.change ≤ b.place = leb-true _ _ two.0 in
    let ends = ranged left (leb-true _ _ two.1) in
    let none = not-true _ all.1 in
    let before : carried_back word b.place + begin_of b ≡ carried_back word (begin_of b) + b.place = even_range word (begin_of b) b.place u ends.0 at (omega arith) (λ j l a c. none_held word (begin_of b) (end_of b) j none l a (omega arith)) in
    let after : carried_back word (end_of b) + b.place ≡ carried_back word b.place + end_of b = even_range word b.place (end_of b) u at ends.1 (omega arith) (λ j l a c. none_held word (begin_of b) (end_of b) j none l (omega arith) c) in
    record { left = left; begin_at = ends.0; end_at = ends.1; begin = omega arith; end = omega arith }

carried_keeps_order : (word : List ℕ) (p q : ℕ) → IsUtf8 word → IsCharBoundary (fold_case word) p → IsCharBoundary (fold_case word) q → p ≤ q → carried_back word p ≤ carried_back word q
carried_keeps_order word p q u a b h =
    elim (nat_lt p q) as (λ t. nat_lt p q ≡ t → carried_back word p ≤ carried_back word q) [
      | true ↦ λ e. let rises = carried_rises word p q u a b (ltb-true p q e) in omega arith
      | false ↦ λ e. let back = ltb-false p q e in let same : p ≡ q = omega arith in let carry = ap (carried_back word) same in omega arith
    ] refl

stands : (word : List ℕ) (last_end least : ℕ) (b : Break) → IsUtf8 word → IsCharBoundary (fold_case word) last_end → CarriesRange word b → last_end ≤ begin_of b → least ≤ carried_back word b.place → BreakFitsAfter word (carried_back word last_end) least (break_carried_back word b)
stands word last_end least b u at range apart least_ok =
    let place = carried_back word b.place in
    let begin_is : carried_back word (begin_of b) ≡ place - left_of b.change = let e = range.begin in omega arith in
    let order = carried_keeps_order word last_end (begin_of b) u at range.begin_at apart in
    record {
      ascends = least_ok;
      within = let e = range.begin in omega arith;
      apart = omega arith;
      place = carried_is_boundary word b.place u;
      begin = subst (IsCharBoundary word) begin_is (carried_is_boundary word (begin_of b) u);
      end = subst (IsCharBoundary word) range.end (carried_is_boundary word (end_of b) u);
    }

-- A later place of the folded word is not carried back before an earlier one.
abbrev pub CarriesFrom : List ℕ → ℕ → ℕ → Type 0
CarriesFrom word low least = (place : ℕ) → IsCharBoundary (fold_case word) place → low ≤ place → least ≤ carried_back word place

carries_after : (word : List ℕ) (p : ℕ) → IsUtf8 word → IsCharBoundary (fold_case word) p → CarriesFrom word (p + 1) (carried_back word p + 1)
carries_after word p u at = λ q b h. let rises = carried_rises word p q u at b (omega arith) in omega arith

kept_from_fits : (word : List ℕ) (last_end low least : ℕ) (breaks : List Break) → IsUtf8 word → IsCharBoundary (fold_case word) last_end → AscendFrom (fold_case word) low breaks → AreRanged (fold_case word) breaks → CarriesFrom word low least
    → FitsFrom word (carried_back word last_end) least (map (break_carried_back word) (kept_from (range_keeps_lengths word) last_end breaks))
kept_from_fits word last_end low least [] u at a ranged from = tt
kept_from_fits word last_end low least (b ∷ bs) u at a ranged from =
    let test = range_keeps_lengths word in
    let passes = test b && nat_le last_end (begin_of b) in
    elim passes as (λ t. passes ≡ t → FitsFrom word (carried_back word last_end) least (map (break_carried_back word) (cond t (b ∷ kept_from test (end_of b) bs) (kept_from test last_end bs)))) [
      | true ↦ λ e.
          let both = and_parts (test b) (nat_le last_end (begin_of b)) e in
          let range = range_carried word b u a.1 ranged.0 both.0 in (
            stands word last_end least b u at range (leb-true _ _ both.1) (from b.place a.1 a.0),
            subst (λ x. FitsFrom word x (carried_back word b.place + 1) (map (break_carried_back word) (kept_from test (end_of b) bs))) range.end
                (kept_from_fits word (end_of b) (b.place + 1) (carried_back word b.place + 1) bs u range.end_at a.2 ranged.1 (carries_after word b.place u a.1)),
          )
      | false ↦ λ e. kept_from_fits word last_end low least bs u at (ascend_earlier (fold_case word) (b.place + 1) low bs (omega (arith, a.0)) a.2) ranged.1 from
    ] refl

-- Breaks that are kept and carried back fit the word as written.
pub fitted_fit : (word : List ℕ) (breaks : List Break) → IsUtf8 word → Ascending (fold_case word) breaks → AreRanged (fold_case word) breaks → Fits word (map (break_carried_back word) (fitted_breaks word breaks))
unfolding fitted_breaks
fitted_fit word breaks u a ranged =
    let start : IsCharBoundary (fold_case word) 0 = IsCharBoundary-start (fold_case word) (fold_is_utf8 word u) in
    subst (λ bs. Fits word (map (break_carried_back word) bs)) (sym (kept_is (range_keeps_lengths word) breaks))
    (subst (λ x. FitsFrom word x 0 (map (break_carried_back word) (kept_from (range_keeps_lengths word) 0 breaks))) (carried_start word u)
    (kept_from_fits word 0 0 0 breaks u start (from_ascending (fold_case word) breaks a) ranged (λ q b h. omega arith)))

-- The ranges of kept breaks have as many bytes in the word as written.
kept_from_keep : (word : List ℕ) (last_end low : ℕ) (breaks : List Break) → IsUtf8 word → AscendFrom (fold_case word) low breaks → AreRanged (fold_case word) breaks → All (KeepsRange word) (kept_from (range_keeps_lengths word) last_end breaks)
kept_from_keep word last_end low [] u a ranged = All-nil (KeepsRange word)
kept_from_keep word last_end low (b ∷ bs) u a ranged =
    let test = range_keeps_lengths word in
    let passes = test b && nat_le last_end (begin_of b) in
    elim passes as (λ t. passes ≡ t → All (KeepsRange word) (cond t (b ∷ kept_from test (end_of b) bs) (kept_from test last_end bs))) [
      | true ↦ λ e.
          let range = range_carried word b u a.1 ranged.0 (and_parts (test b) (nat_le last_end (begin_of b)) e).0 in
          let begin_is : carried_back word (begin_of b) ≡ carried_back word b.place - left_of b.change = let s = range.begin in omega arith in
          All-cons (KeepsRange word) b (kept_from test (end_of b) bs) (begin_is, range.end) (kept_from_keep word (end_of b) (b.place + 1) bs u a.2 ranged.1)
      | false ↦ λ e. kept_from_keep word last_end (b.place + 1) bs u a.2 ranged.1
    ] refl

pub fitted_keep : (word : List ℕ) (breaks : List Break) → IsUtf8 word → Ascending (fold_case word) breaks → AreRanged (fold_case word) breaks → All (KeepsRange word) (fitted_breaks word breaks)
unfolding fitted_breaks
fitted_keep word breaks u a ranged = subst (All (KeepsRange word)) (sym (kept_is (range_keeps_lengths word) breaks)) (kept_from_keep word 0 0 breaks u (from_ascending (fold_case word) breaks a) ranged)

-- ---- keeping breaks by the shifts

any_picked : {X Y : Type 0} (f : X → Y) (p : X → Bool) (q : Y → Bool) (xs : List X) → list_any q (map f (filter p xs)) ≡ list_any (λ x. p x && q (f x)) xs
any_picked f p q [] = refl
any_picked {X} {Y} f p q (x ∷ xs) =
    elim (p x) as (λ t. list_any q (map f (cond {A = List X} t (x ∷ filter p xs) (filter p xs))) ≡ ((t && q (f x)) || list_any (λ y. p y && q (f y)) xs)) [
      | true ↦ ap (λ t. q (f x) || t) (any_picked f p q xs)
      | false ↦ any_picked f p q xs
    ]

-- A character whose number of bytes changes begins in a range exactly where a shift does.
pub held_by_shifts : (word : List ℕ) (begin end : ℕ) → holds_shift (shifts_of word) begin end ≡ holds_length_change word begin end
held_by_shifts word begin end = any_picked (shift_of word) (changes_length word) (λ shift. nat_le begin shift.index && nat_lt shift.index end) (range_with_len 0 (length (chars word)))

pub steady_by_shifts : (word : List ℕ) (b : Break) → range_holds_no_shift (length (fold_case word)) (shifts_of word) b ≡ range_keeps_lengths word b
unfolding range_holds_no_shift
steady_by_shifts word b = ap (λ t. nat_le (left_of b.change) b.place && nat_le (end_of b) (length (fold_case word)) && not t) (held_by_shifts word (begin_of b) (end_of b))

kept_same : (test other : Break → Bool) (last_end : ℕ) (breaks : List Break) → ((b : Break) → test b ≡ other b) → kept_from test last_end breaks ≡ kept_from other last_end breaks
kept_same test other last_end [] same = refl
kept_same test other last_end (b ∷ bs) same =
    ap (λ t. cond (t && nat_le last_end (begin_of b)) (b ∷ kept_from test (end_of b) bs) (kept_from test last_end bs)) (same b)
    ∙ ap (λ rest. cond (other b && nat_le last_end (begin_of b)) (b ∷ rest) (kept_from test last_end bs)) (kept_same test other (end_of b) bs same)
    ∙ ap (λ rest. cond (other b && nat_le last_end (begin_of b)) (b ∷ kept_from other (end_of b) bs) rest) (kept_same test other last_end bs same)

pub fitted_by_shifts : (word : List ℕ) (breaks : List Break) → kept_breaks (range_holds_no_shift (length (fold_case word)) (shifts_of word)) breaks ≡ fitted_breaks word breaks
unfolding fitted_breaks
fitted_by_shifts word breaks = kept_is _ breaks ∙ kept_same _ _ 0 breaks (steady_by_shifts word) ∙ sym (kept_is (range_keeps_lengths word) breaks)

realigned_from : (word : List ℕ) (test : Break → Bool) (last_end low : ℕ) (breaks : List Break) → IsUtf8 word → length word < 2 ^ 64 → AscendFrom (fold_case word) low breaks
    → map (realigned_break (shifts_of word)) (kept_from test last_end breaks) ≡ map (break_carried_back word) (kept_from test last_end breaks)
unfolding realigned_break
realigned_from word test last_end low [] u l a = refl
realigned_from word test last_end low (b ∷ bs) u l a =
    elim (test b && nat_le last_end (begin_of b)) as (λ t. map (realigned_break (shifts_of word)) (cond t (b ∷ kept_from test (end_of b) bs) (kept_from test last_end bs)) ≡ map (break_carried_back word) (cond t (b ∷ kept_from test (end_of b) bs) (kept_from test last_end bs))) [
      | true ↦
          ap (λ p. break_at p b.change ∷ map (realigned_break (shifts_of word)) (kept_from test (end_of b) bs)) (realigned_boundary word b.place u l a.1)
          ∙ ap (λ rest. break_carried_back word b ∷ rest) (realigned_from word test (end_of b) (b.place + 1) bs u l a.2)
      | false ↦ realigned_from word test last_end (b.place + 1) bs u l a.2
    ]

-- Kept breaks that are carried back by shifts are carried back.
pub fitted_realigned : (word : List ℕ) (breaks : List Break) → IsUtf8 word → length word < 2 ^ 64 → Ascending (fold_case word) breaks → map (realigned_break (shifts_of word)) (fitted_breaks word breaks) ≡ map (break_carried_back word) (fitted_breaks word breaks)
unfolding fitted_breaks
fitted_realigned word breaks u l a =
    ap (map (realigned_break (shifts_of word))) (kept_is (range_keeps_lengths word) breaks) ∙ realigned_from word (range_keeps_lengths word) 0 0 breaks u l (from_ascending (fold_case word) breaks a) ∙ ap (map (break_carried_back word)) (sym (kept_is (range_keeps_lengths word) breaks))
