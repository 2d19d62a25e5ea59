-- Ranges of found breaks that lie in the word begin and end on its character boundaries.
use Rattle.std.proofs.Common.{◌≡◌, ℕ, zero, suc, ◌+◌, ◌-◌, ◌<◌, ◌≤◌, ◌&&◌, nat_le, leb-true, Bool, true, false, cond, List, [], ◌∷◌, length, map, filter, get_or, Option, Some, None, refl, sym, subst, arith, add-zero}
use Rattle.std.specs.List.{list_all, range_with_len, slice_range}
use Rattle.std.specs.Option.{IfSome, option_map, option_and_then, option_map_or, unwrap_or}
use Rattle.std.specs.Str.{IsUtf8, IsCharBoundary}
use Rattle.std.specs.FinMap as finite
use Rattle.std.proofs.Math.Nat.{sub-zero}
use Rattle.std.proofs.lemmas.Bool.{and_parts}
use Rattle.hyphenation_breaks.specs.Break.{Break, Change, break_at, ascend_on, is_boundary, keeps_within}
use Rattle.hyphenation_breaks.specs.Dictionary.{Contents, entries_of_keys}
use Rattle.hyphenation_breaks.specs.Invariant.{IsDictionary, fits_usize, can_be_written, is_value, stays_within, lists_within}
use Rattle.hyphenation_breaks.specs.declared.entry.Entry.{Entry}
use Rattle.hyphenation_hyphenator.specs.Opportunities.{rules_of, is_odd, within, breaks_within, winning_break, breaks_at_odd_values, by_patterns, by_exception, opportunities_in, opportunities, boundaries_by}
use Rattle.hyphenation_score.specs.Laws.{ValueIsBorne, WinnerIsFirst}
use Rattle.hyphenation_score.specs.Scoring.{frame, value_at, winner_at}
use Rattle.hyphenation_hyphenator.proofs.Ascending.{boundary_from_test}
use Rattle.hyphenation_hyphenator.proofs.Fitting.{Ranged, AreRanged}
use Rattle.hyphenation_hyphenator.proofs.Occurrences.{occurrence_boundary, frame_is_utf8, unframed_boundary, value_boundary}
use Rattle.hyphenation_hyphenator.proofs.RulesAscend.{odd_is_some}

-- ---- exceptions

-- The parts of the fact that a change keeps within a text.
pub record KeepsWithin (text : List ℕ) (place : ℕ) (change : Change) : Type 0 where
  pub left : change.left ≤ place
  pub begin : IsCharBoundary text (place - change.left)
  pub end : IsCharBoundary text (place + change.right)

pub kept_within : (text : List ℕ) (place : ℕ) (change : Change) → keeps_within text place change ≡ true → KeepsWithin text place change
kept_within text place change h =
    let all = and_parts (nat_le change.left place && is_boundary text (place - change.left) && is_boundary text (place + change.right)) (is_boundary change.substitution change.breakpoint) h in
    let two = and_parts (nat_le change.left place && is_boundary text (place - change.left)) (is_boundary text (place + change.right)) all.0 in
    let one = and_parts (nat_le change.left place) (is_boundary text (place - change.left)) two.0 in
    record { left = leb-true _ _ one.0; begin = boundary_from_test text _ one.1; end = boundary_from_test text _ two.1 }

unchanged_ranged : (text : List ℕ) (place : ℕ) → IsCharBoundary text place → Ranged text (break_at place None)
unchanged_ranged text place at = λ left end. (subst (IsCharBoundary text) (sym (sub-zero place)) at, subst (IsCharBoundary text) (sym (add-zero place)) at)

stays_ranged : (text : List ℕ) (place : ℕ) (change : Option Change) → IsCharBoundary text place → stays_within text place change ≡ true → Ranged text (break_at place change)
stays_ranged text place None at h = unchanged_ranged text place at
stays_ranged text place (Some change) at h = λ left end. let k = kept_within text place change (and_parts (fits_usize place && can_be_written change) _ h).1 in (k.begin, k.end)

listed_ranged : {B : Type 0} (break_of : B → Break) (word : List ℕ) (least : ℕ) (listed : List B) → ascend_on word least (map (λ b. (break_of b).place) listed) ≡ true
    → list_all (λ b. lists_within word (break_of b).place (break_of b).change) listed ≡ true → AreRanged word (map break_of listed)
listed_ranged break_of word least [] h k = tt
listed_ranged break_of word least (b ∷ bs) h k =
    let p = (break_of b).place in
    let places = and_parts (nat_le least p && is_boundary word p) (ascend_on word (p + 1) (map (λ b. (break_of b).place) bs)) h in
    let here = and_parts (nat_le least p) (is_boundary word p) places.0 in
    let within = and_parts (lists_within word p (break_of b).change) (list_all (λ b. lists_within word (break_of b).place (break_of b).change) bs) k in
    (stays_ranged word p (break_of b).change (boundary_from_test word p here.1) (and_parts (fits_usize p) _ within.0).1, listed_ranged break_of word (p + 1) bs places.1 within.1)

-- ---- patterns

-- The change of an entry of a key keeps within it.
entry_stays : {C : Type 0} (change_of : C → Option Change) (key : List ℕ) (entries : List (Entry C)) (i : ℕ) (entry : Entry C)
    → list_all (λ e. is_value e.value && stays_within key e.place (change_of e.change)) entries ≡ true → i < length entries → entry ≡ get_or entries i entry → stays_within key entry.place (change_of entry.change) ≡ true
entry_stays {C} change_of key [] i entry h lt is = absurd (omega arith)
entry_stays {C} change_of key (e ∷ es) i entry h lt is =
    let stays = stays_within key e.place (change_of e.change) in
    let all = and_parts (is_value e.value && stays) (list_all (λ e. is_value e.value && stays_within key e.place (change_of e.change)) es) h in
    elim i as (λ i. i < length (e ∷ es) → entry ≡ get_or (e ∷ es) i entry → stays_within key entry.place (change_of entry.change) ≡ true) [
      | zero ↦ λ _ here. subst (λ (x : Entry C). stays_within key x.place (change_of x.change) ≡ true) (sym here) (and_parts (is_value e.value) stays all.0).1
      | suc i ↦ λ lt there. entry_stays change_of key es i entry all.1 (omega arith) there
    ] lt is

-- A change has the same bounds in the word as in the key, without the dots of the frame.
in_word : (word : List ℕ) (p start end at : ℕ) (change : Change) → IsUtf8 word → start < end → end ≤ length (frame word) → IsUtf8 (slice_range (frame word) start end) → start + at ≡ p + 1
    → KeepsWithin (slice_range (frame word) start end) at change → Ranged word (break_at p (Some change))
in_word word p start end at change u some within v place k = λ left last.
    let framed = frame word in
    let w = frame_is_utf8 word u in
    let k_left = k.left in
    let begin_at : start + (at - change.left) ≡ (p - change.left) + 1 = omega arith in
    let end_at : start + (at + change.right) ≡ (p + change.right) + 1 = omega arith in
    let begin = occurrence_boundary framed start end (at - change.left) w some within v k.begin in
    let last_one = occurrence_boundary framed start end (at + change.right) w some within v k.end in (
      unframed_boundary word (p - change.left) (omega arith) (subst (IsCharBoundary framed) begin_at begin),
      unframed_boundary word (p + change.right) (omega arith) (subst (IsCharBoundary framed) end_at last_one),
    )

won_ranged : {C B : Type 0} (change_of : C → Option Change) (break_of : B → Break) (contents : Contents C B) (word : List ℕ) (p : ℕ)
    → WinnerIsFirst C → IsDictionary change_of break_of contents → IsUtf8 word → IsCharBoundary word p → Ranged word (winning_break change_of (entries_of_keys contents) word p)
won_ranged {C} change_of break_of contents word p first kept u at =
    let keys = entries_of_keys contents in
    elim (winner_at keys word p) as (λ winner. winner_at keys word p ≡ winner → Ranged word (break_at p (option_and_then (λ entry. change_of entry.change) winner))) [
      | None ↦ λ _. unchanged_ranged word p at
      | Some entry ↦ λ is.
          let wins = first keys word p entry is in
          let bears = wins.2.bears in
          let key = slice_range (frame word) wins.0 wins.1 in
          let pattern = kept.patterns key bears.entries bears.key in
          let sound = (and_parts (ascend_on key 0 (map (λ e. e.place) bears.entries)) _ pattern.ascend).1 in
          let stays = entry_stays change_of key bears.entries bears.among.0 entry sound bears.among.1.0 bears.among.1.1 in
          elim (change_of entry.change) as (λ change. stays_within key entry.place change ≡ true → Ranged word (break_at p change)) [
            | None ↦ λ _. unchanged_ranged word p at
            | Some change ↦ λ h. in_word word p wins.0 wins.1 entry.place change u bears.not_empty bears.within pattern.utf8 bears.place (kept_within key entry.place change (and_parts (fits_usize entry.place && can_be_written change) _ h).1)
          ] stays
    ] refl

picked_ranged : (text : List ℕ) (test : ℕ → Bool) (break_to : ℕ → Break) (first n : ℕ) → ((p : ℕ) → p < first + n → test p ≡ true → Ranged text (break_to p)) → AreRanged text (map break_to (filter test (range_with_len first n)))
picked_ranged text test break_to first zero at = tt
picked_ranged text test break_to first (suc n) at =
    let rest = picked_ranged text test break_to (first + 1) n (λ p lt. at p (omega arith)) in
    elim (test first) as (λ t. test first ≡ t → AreRanged text (map break_to (cond t (first ∷ filter test (range_with_len (first + 1) n)) (filter test (range_with_len (first + 1) n))))) [
      | true ↦ λ passes. (at first (omega arith) passes, rest)
      | false ↦ λ _. rest
    ] refl

-- ---- found breaks

within_ranged : (text : List ℕ) (breaks : List Break) (bounds : ℕ × ℕ) → AreRanged text breaks → AreRanged text (breaks_within breaks bounds)
within_ranged text [] bounds r = tt
within_ranged text (b ∷ bs) bounds r =
    let rest = within_ranged text bs bounds r.1 in
    elim (within bounds b.place) as (λ t. AreRanged text (cond t (b ∷ breaks_within bs bounds) (breaks_within bs bounds))) [ true ↦ (r.0, rest) | false ↦ rest ]

patterns_ranged : {C B : Type 0} (change_of : C → Option Change) (break_of : B → Break) (contents : Contents C B) (word : List ℕ) (bounds : ℕ × ℕ)
    → ValueIsBorne C → WinnerIsFirst C → IsDictionary change_of break_of contents → IsUtf8 word → AreRanged word (by_patterns (rules_of change_of break_of contents) word bounds)
unfolding breaks_at_odd_values
patterns_ranged change_of break_of contents word bounds borne first kept u =
    let keys = entries_of_keys contents in
    within_ranged word (map (winning_break change_of keys word) (filter (λ place. is_odd (value_at keys word place)) (range_with_len 1 (length word - 1)))) bounds
    (picked_ranged word (λ place. is_odd (value_at keys word place)) (winning_break change_of keys word) 1 (length word - 1)
    (λ p lt odd. won_ranged change_of break_of contents word p first kept u (value_boundary change_of break_of contents word p borne kept u (omega arith) (odd_is_some (value_at keys word p) odd))))

exception_ranged : {C B : Type 0} (change_of : C → Option Change) (break_of : B → Break) (contents : Contents C B) (word : List ℕ) (bounds : ℕ × ℕ)
    → IsDictionary change_of break_of contents → IfSome (by_exception (rules_of change_of break_of contents) word bounds) (AreRanged word)
exception_ranged {C} {B} change_of break_of contents word bounds kept =
    elim (finite.get contents.exceptions word) as (λ found. finite.get contents.exceptions word ≡ found → IfSome (option_map (λ l. breaks_within l bounds) (option_map (map break_of) found)) (AreRanged word)) [
      | None ↦ λ _. tt
      | Some listed ↦ λ is.
          let both = and_parts (ascend_on word 0 (map (λ b. (break_of b).place) listed)) _ (kept.exceptions word listed is).ascend in
          within_ranged word (map break_of listed) bounds (listed_ranged break_of word 0 listed both.0 both.1)
    ] refl

pub opportunities_ranged : {C B : Type 0} (change_of : C → Option Change) (break_of : B → Break) (contents : Contents C B) (word : List ℕ)
    → ValueIsBorne C → WinnerIsFirst C → IsDictionary change_of break_of contents → IsUtf8 word → AreRanged word (opportunities (rules_of change_of break_of contents) word)
unfolding opportunities
opportunities_ranged change_of break_of contents word borne first kept u =
    let rules = rules_of change_of break_of contents in
    elim (boundaries_by rules word) as (λ found. AreRanged word (option_map_or (opportunities_in rules word) found [])) [
      | None ↦ tt
      | Some bounds ↦
          elim (by_exception rules word bounds) as (λ found. IfSome found (AreRanged word) → AreRanged word (unwrap_or found (by_patterns rules word bounds))) [
            | None ↦ λ _. patterns_ranged change_of break_of contents word bounds borne first kept u
            | Some listed ↦ λ r. r
          ] (exception_ranged change_of break_of contents word bounds kept)
    ]
