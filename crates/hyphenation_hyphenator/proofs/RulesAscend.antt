-- Breaks by the rules of a dictionary ascend on character boundaries.
use Rattle.std.proofs.Common.{◌≡◌, ℕ, zero, suc, ◌+◌, ◌-◌, ◌<◌, ◌≤◌, Bool, true, false, cond, List, [], ◌∷◌, length, map, filter, Option, Some, None, refl, sym, ap, subst, ◌∙◌, arith, add-one}
use Rattle.std.specs.Prelude.{All}
use Rattle.std.specs.List.{range_with_len, slice_index}
use Rattle.std.specs.List.Sorted.{IsStrictlyIncreasing}
use Rattle.std.specs.Option.{IfSome, option_map, option_and_then, option_map_or, unwrap_or}
use Rattle.std.specs.Str.{IsUtf8, IsCharBoundary}
use Rattle.std.specs.FinMap as finite
use Rattle.std.proofs.lemmas.Bool.{and_parts}
use Rattle.std.proofs.lemmas.List.Elements.{All-head, All-tail}
use mathlib.Core.List.{map-map}
use Rattle.hyphenation_breaks.specs.Break.{Break, Change, plain_break, ascend_on, end_of}
use Rattle.hyphenation_breaks.specs.Dictionary.{Contents, entries_of_keys}
use Rattle.hyphenation_breaks.specs.Invariant.{IsDictionary, are_listed}
use Rattle.hyphenation_segments.specs.Fits.{Fits, FitsFrom}
use Rattle.hyphenation_score.specs.Laws.{ValueIsBorne}
use Rattle.hyphenation_score.specs.Scoring.{value_at}
use Rattle.hyphenation_hyphenator.specs.Opportunities.{Rules, rules_of, is_odd, within, breaks_within, winning_break, breaks_at_odd_values, by_patterns, by_exception, opportunities_in, opportunities, boundaries_by, exception_within_boundaries, Ascending}
use Rattle.hyphenation_hyphenator.proofs.Ascending.{Ascend, ascend_from_test, ascend_fits, test_from_ascend}
use Rattle.hyphenation_hyphenator.proofs.Occurrences.{value_boundary}

-- Breaks that ascend from a least place on.
abbrev pub AscendFrom : List ℕ → ℕ → List Break → Type 0
AscendFrom text least breaks = Ascend text least (map (λ b. b.place) breaks)

pub from_ascending : (text : List ℕ) (breaks : List Break) → Ascending text breaks → AscendFrom text 0 breaks
from_ascending text breaks a = ascend_from_test text 0 (map (λ b. b.place) breaks) a

pub to_ascending : (text : List ℕ) (breaks : List Break) → AscendFrom text 0 breaks → Ascending text breaks
to_ascending text breaks a = test_from_ascend text 0 (map (λ b. b.place) breaks) a

pub ascend_earlier : (text : List ℕ) (least less : ℕ) (breaks : List Break) → less ≤ least → AscendFrom text least breaks → AscendFrom text less breaks
ascend_earlier text least less [] h a = tt
ascend_earlier text least less (b ∷ bs) h a = (omega (arith, a.0), a.1, a.2)

within_ascend : (text : List ℕ) (least : ℕ) (breaks : List Break) (bounds : ℕ × ℕ) → AscendFrom text least breaks → AscendFrom text least (breaks_within breaks bounds)
within_ascend text least [] bounds a = tt
within_ascend text least (b ∷ bs) bounds a =
    let rest = within_ascend text (b.place + 1) bs bounds a.2 in
    elim (within bounds b.place) as (λ t. AscendFrom text least (cond t (b ∷ breaks_within bs bounds) (breaks_within bs bounds))) [
      | true ↦ (a.0, a.1, rest)
      | false ↦ ascend_earlier text (b.place + 1) least (breaks_within bs bounds) (omega (arith, a.0)) rest
    ]

within_ascending : (text : List ℕ) (breaks : List Break) (bounds : ℕ × ℕ) → Ascending text breaks → Ascending text (breaks_within breaks bounds)
within_ascending text breaks bounds a = to_ascending text (breaks_within breaks bounds) (within_ascend text 0 breaks bounds (from_ascending text breaks a))

-- The breaks listed for a word, and those that patterns allow in it, ascend.
pub record AreSound (rules : Rules) (word : List ℕ) : Type 0 where
  pub listed : IfSome (rules.listed word) (λ listed. Ascending word listed)
  pub allowed : Ascending word (rules.allowed word)

-- ---- the rules of a dictionary

listed_ascend : {B : Type 0} (break_of : B → Break) (word : List ℕ) (listed : List B) → are_listed break_of word listed ≡ true → Ascending word (map break_of listed)
listed_ascend break_of word listed h =
    ap (ascend_on word 0) (map-map (λ b. b.place) break_of listed) ∙ (and_parts (ascend_on word 0 (map (λ b. (break_of b).place) listed)) _ h).0

kept_ascend : (text : List ℕ) (test : ℕ → Bool) (break_to : ℕ → Break) → ((p : ℕ) → (break_to p).place ≡ p) → (first n least : ℕ) → least ≤ first
    → ((p : ℕ) → p < first + n → test p ≡ true → IsCharBoundary text p) → AscendFrom text least (map break_to (filter test (range_with_len first n)))
kept_ascend text test break_to placed first zero least h at = tt
kept_ascend text test break_to placed first (suc n) least h at =
    let rest : (low : ℕ) → low ≤ first + 1 → AscendFrom text low (map break_to (filter test (range_with_len (first + 1) n))) = λ low l. kept_ascend text test break_to placed (first + 1) n low l (λ p lt. at p (omega arith)) in
    elim (test first) as (λ t. test first ≡ t → AscendFrom text least (map break_to (cond t (first ∷ filter test (range_with_len (first + 1) n)) (filter test (range_with_len (first + 1) n))))) [
      | true ↦ λ passes. (omega (arith, placed first), subst (IsCharBoundary text) (sym (placed first)) (at first (omega arith) passes), rest ((break_to first).place + 1) (omega (arith, placed first)))
      | false ↦ λ _. rest least (omega arith)
    ] refl

pub odd_is_some : (value : ℕ) → is_odd value ≡ true → 0 < value
odd_is_some zero h = absurd cc
odd_is_some (suc value) h = omega arith

pub exceptions_ascend : {C B : Type 0} (change_of : C → Option Change) (break_of : B → Break) (contents : Contents C B) (word : List ℕ)
    → IsDictionary change_of break_of contents → IfSome ((rules_of change_of break_of contents).listed word) (λ listed. Ascending word listed)
exceptions_ascend {C} {B} change_of break_of contents word kept =
    elim (finite.get contents.exceptions word) as (λ found. finite.get contents.exceptions word ≡ found → IfSome (option_map (map break_of) found) (λ listed. Ascending word listed)) [
      | None ↦ λ _. tt
      | Some listed ↦ λ is. listed_ascend break_of word listed (kept.exceptions word listed is).ascend
    ] refl

pub rules_are_sound : {C B : Type 0} (change_of : C → Option Change) (break_of : B → Break) (contents : Contents C B) (word : List ℕ)
    → ValueIsBorne C → IsDictionary change_of break_of contents → IsUtf8 word → AreSound (rules_of change_of break_of contents) word
unfolding breaks_at_odd_values
rules_are_sound {C} {B} change_of break_of contents word borne kept u =
    let keys = entries_of_keys contents in
    record {
      listed = exceptions_ascend change_of break_of contents word kept;
      allowed = to_ascending word ((rules_of change_of break_of contents).allowed word)
          (kept_ascend word (λ place. is_odd (value_at keys word place)) (winning_break change_of keys word) (λ _. refl) 1 (length word - 1) 0 (omega arith)
          (λ p lt odd. value_boundary change_of break_of contents word p borne kept u (omega arith) (odd_is_some (value_at keys word p) odd)));
    }

-- ---- breaks by rules

pub by_patterns_ascend : (rules : Rules) (word : List ℕ) (bounds : ℕ × ℕ) → AreSound rules word → Ascending word (by_patterns rules word bounds)
by_patterns_ascend rules word bounds sound = within_ascending word (rules.allowed word) bounds sound.allowed

pub by_exception_ascends : (rules : Rules) (word : List ℕ) (bounds : ℕ × ℕ) → IfSome (rules.listed word) (λ listed. Ascending word listed) → IfSome (by_exception rules word bounds) (λ listed. Ascending word listed)
by_exception_ascends rules word bounds listed =
    elim (rules.listed word) as (λ found. IfSome found (λ listed. Ascending word listed) → IfSome (option_map (λ listed. breaks_within listed bounds) found) (λ listed. Ascending word listed)) [
      | None ↦ λ _. tt
      | Some listed ↦ λ a. within_ascending word listed bounds a
    ] listed

pub exception_ascends : (rules : Rules) (word : List ℕ) → AreSound rules word → IfSome (exception_within_boundaries rules word) (λ listed. Ascending word listed)
exception_ascends rules word sound =
    elim (boundaries_by rules word) as (λ found. IfSome (option_and_then (by_exception rules word) found) (λ listed. Ascending word listed)) [
      | None ↦ tt
      | Some bounds ↦ by_exception_ascends rules word bounds sound.listed
    ]

pub opportunities_ascend : (rules : Rules) (word : List ℕ) → AreSound rules word → Ascending word (opportunities rules word)
unfolding opportunities
opportunities_ascend rules word sound =
    elim (boundaries_by rules word) as (λ found. Ascending word (option_map_or (opportunities_in rules word) found [])) [
      | None ↦ refl
      | Some bounds ↦
          elim (by_exception rules word bounds) as (λ found. IfSome found (λ listed. Ascending word listed) → Ascending word (unwrap_or found (by_patterns rules word bounds))) [
            | None ↦ λ _. by_patterns_ascend rules word bounds sound
            | Some listed ↦ λ a. a
          ] (by_exception_ascends rules word bounds sound.listed)
    ]

-- ---- increasing places

increasing_tail : (x : ℕ) (xs : List ℕ) → IsStrictlyIncreasing (x ∷ xs) → IsStrictlyIncreasing xs
increasing_tail x xs h = λ k lt. let later : slice_index xs k < slice_index (x ∷ xs) (suc k + 1) = h (suc k) (omega arith) in
    let e : slice_index (x ∷ xs) (suc k + 1) ≡ slice_index xs (k + 1) = ap (λ i. slice_index (x ∷ xs) i) (add-one (suc k)) ∙ ap (λ i. slice_index xs i) (sym (add-one k)) in omega arith

-- Increasing places on boundaries ascend.
places_ascend : (text : List ℕ) (least : ℕ) (xs : List ℕ) → IsStrictlyIncreasing xs → All (λ place. IsCharBoundary text place × (place < length text)) xs → (0 < length xs → least ≤ slice_index xs 0) → AscendFrom text least (map plain_break xs)
places_ascend text least [] h all from = tt
places_ascend text least (x ∷ xs) h all from = (
  from (omega arith),
  (All-head (λ place. IsCharBoundary text place × (place < length text)) x xs all).0,
  places_ascend text (x + 1) xs (increasing_tail x xs h) (All-tail (λ place. IsCharBoundary text place × (place < length text)) x xs all)
      (λ lt. let next : x < slice_index xs 0 = h 0 (omega arith) in omega arith),
)

places_of_plain : (xs : List ℕ) → map (λ b. b.place) (map plain_break xs) ≡ xs
places_of_plain [] = refl
places_of_plain (x ∷ xs) = ap (λ ys. x ∷ ys) (places_of_plain xs)

-- Plain breaks that ascend fit.
pub ascending_fit : (text xs : List ℕ) → AscendFrom text 0 (map plain_break xs) → Fits text (map plain_break xs)
ascending_fit text xs a = ascend_fits text 0 0 xs (omega arith) (subst (Ascend text 0) (places_of_plain xs) a)

pub increasing_fit : (text xs : List ℕ) → IsStrictlyIncreasing xs → All (λ place. IsCharBoundary text place × (place < length text)) xs → Fits text (map plain_break xs)
increasing_fit text xs h all = ascending_fit text xs (places_ascend text 0 xs h all (λ _. omega arith))

-- Breaks that fit ascend.
pub fits_ascends : (text : List ℕ) (last_end least : ℕ) (breaks : List Break) → FitsFrom text last_end least breaks → AscendFrom text least breaks
fits_ascends text last_end least [] f = tt
fits_ascends text last_end least (b ∷ bs) f = (f.0.ascends, f.0.place, fits_ascends text (end_of b) (b.place + 1) bs f.1)
