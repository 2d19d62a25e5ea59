-- Plain breaks are all kept, and a standard dictionary has only plain breaks.
use Rattle.std.proofs.Common.{◌≡◌, ℕ, ◌+◌, ◌-◌, ◌≤◌, ◌==◌, ◌&&◌, not, Bool, true, false, cond, nat_le, le-leb, List, [], ◌∷◌, length, map, Option, Some, None, Bor, option_copied, refl, sym, ap, ◌∙◌, arith}
use Rattle.std.specs.Option.{option_map, option_and_then, option_map_or, unwrap_or}
use Rattle.std.specs.Str.{IsUtf8}
use Rattle.std.specs.FinMap as finite
use Rattle.std.specs.Prelude.{is_none}
use Rattle.std.specs.List.{list_all}
use Rattle.std.proofs.lemmas.Bool.{cond-true, and_parts}
use Rattle.hyphenation_breaks.specs.Break.{Break, Change, plain_break, break_at, begin_of, end_of}
use Rattle.hyphenation_breaks.specs.Dictionary.{Contents, Patterns, entries_of_keys}
use Rattle.hyphenation_breaks.specs.Invariant.{IsDictionary}
use Rattle.hyphenation_hyphenator.specs.declared.case_folding.Shift.{Shift}
use Rattle.hyphenation_hyphenator.specs.Fitting.{kept_breaks, fitted_breaks_of}
use Rattle.hyphenation_hyphenator.specs.Private.Fitting.{holds_shift, range_holds_no_shift}
use Rattle.hyphenation_hyphenator.specs.Private.Opportunities.{borrowed_break}
use Rattle.hyphenation_hyphenator.specs.Folding.{fold_case, carried_back, shifts_of}
use Rattle.hyphenation_hyphenator.specs.Opportunities.{Rules, no_change, rules_of, within, breaks_within, winning_break, breaks_at_odd_values, by_patterns, opportunities_in, opportunities, boundaries_by, all_breaks_of, breaks_as_written, break_carried_back, Ascending}
use Rattle.hyphenation_hyphenator.specs.SoftHyphens.{soft_hyphens}
use Rattle.hyphenation_score.specs.Laws.{ValueIsBorne}
use Rattle.hyphenation_score.specs.Scoring.{winner_at}
use Rattle.hyphenation_hyphenator.proofs.Fitting.{kept_from, kept_is, fitted_by_shifts}
use Rattle.hyphenation_hyphenator.proofs.Folds.{fold_is_utf8}
use Rattle.hyphenation_hyphenator.proofs.RulesAscend.{AscendFrom, from_ascending, rules_are_sound, opportunities_ascend}

-- Each break is plain.
abbrev pub ArePlain : List Break → Type 0
ArePlain [] = Unit {0}
ArePlain (b ∷ bs) = (b ≡ plain_break b.place) × ArePlain bs

-- ---- all of them are kept

none_between : (place : ℕ) (shifts : List Shift) → holds_shift shifts (place - 0) (place + 0) ≡ false
none_between place [] = refl
none_between place (s ∷ ss) =
    elim (nat_le place s.index) as (λ t. nat_le place s.index ≡ t → holds_shift (s ∷ ss) (place - 0) (place + 0) ≡ false) [
      | true ↦ λ e. grind (arith, none_between place ss)
      | false ↦ λ e. grind (arith, none_between place ss)
    ] refl

plain_is_steady : (size : ℕ) (shifts : List Shift) (place : ℕ) → place ≤ size → range_holds_no_shift size shifts (plain_break place) ≡ true
unfolding range_holds_no_shift
plain_is_steady size shifts place h =
    ap (λ t. (nat_le 0 place && t) && not (holds_shift shifts (place - 0) (place + 0))) (le-leb (place + 0) size (omega arith))
    ∙ ap (λ t. (t && true) && not (holds_shift shifts (place - 0) (place + 0))) (le-leb 0 place (omega arith))
    ∙ ap (λ t. (true && true) && not t) (none_between place shifts)

all_kept : (text : List ℕ) (test : Break → Bool) (last_end least : ℕ) (breaks : List Break) → ((place : ℕ) → place ≤ length text → test (plain_break place) ≡ true) → last_end ≤ least → AscendFrom text least breaks → ArePlain breaks → kept_from test last_end breaks ≡ breaks
all_kept text test last_end least [] steady h a p = refl
all_kept text test last_end least (b ∷ bs) steady h a p =
    let place = b.place in
    let end_is : end_of b ≡ place + 0 = ap end_of p.0 in
    let passes : (test b && nat_le last_end (begin_of b)) ≡ true =
    ap (λ x. test x && nat_le last_end (begin_of x)) p.0 ∙ ap (λ t. t && nat_le last_end (place - 0)) (steady place (a.1).0) ∙ le-leb last_end (place - 0) (omega (arith, a.0)) in
    cond-true _ (b ∷ kept_from test (end_of b) bs) (kept_from test last_end bs) passes ∙ ap (λ rest. b ∷ rest) (all_kept text test (end_of b) (place + 1) bs steady (omega arith) a.2 p.1)

pub plain_kept : (text : List ℕ) (shifts : List Shift) (breaks : List Break) → Ascending text breaks → ArePlain breaks → kept_breaks (range_holds_no_shift (length text) shifts) breaks ≡ breaks
plain_kept text shifts breaks a p = kept_is _ breaks ∙ all_kept text (range_holds_no_shift (length text) shifts) 0 0 breaks (plain_is_steady (length text) shifts) (omega arith) (from_ascending text breaks a) p

carried_plain : (word : List ℕ) (breaks : List Break) → ArePlain breaks → ArePlain (map (break_carried_back word) breaks)
carried_plain word [] p = tt
carried_plain word (b ∷ bs) p = (ap (λ x. break_at (carried_back word b.place) x.change) p.0, carried_plain word bs p.1)

-- ---- the breaks of a standard dictionary

pub plain_made : {X : Type 0} (make : X → Break) → ((x : X) → make x ≡ plain_break (make x).place) → (xs : List X) → ArePlain (map make xs)
plain_made make h [] = tt
plain_made make h (x ∷ xs) = (h x, plain_made make h xs)

-- Borrowed breaks without a change are plain.
pub plain_borrowed : (found : List (ℕ × Option (Bor Change))) → list_all (λ b. is_none b.1) found ≡ true → ArePlain (map borrowed_break found)
plain_borrowed [] none = tt
plain_borrowed (b ∷ bs) none =
    let parts = and_parts (is_none b.1) (list_all (λ b. is_none b.1) bs) none in
    (elim b.1 as (λ o. is_none o ≡ true → break_at b.0 (option_copied o) ≡ plain_break b.0) [ None ↦ λ _. refl | Some change ↦ λ h. absurd cc ] parts.0, plain_borrowed bs parts.1)

plain_within : (breaks : List Break) (bounds : ℕ × ℕ) → ArePlain breaks → ArePlain (breaks_within breaks bounds)
plain_within [] bounds p = tt
plain_within (b ∷ bs) bounds p =
    let rest = plain_within bs bounds p.1 in
    elim (within bounds b.place) as (λ t. ArePlain (cond t (b ∷ breaks_within bs bounds) (breaks_within bs bounds))) [
      | true ↦ (p.0, rest)
      | false ↦ rest
    ]

pub changes_nothing : {C : Type 0} (keys : Patterns C) (text : List ℕ) (place : ℕ) → winning_break no_change keys text place ≡ plain_break place
changes_nothing keys text place =
    elim (winner_at keys text place) as (λ winner. record { place = place; change = option_and_then (λ entry. no_change entry.change) winner } ≡ plain_break place) [
      | None ↦ refl
      | Some entry ↦ refl
    ]

module _ (contents : Contents (Unit {0}) ℕ) (word : List ℕ) where
  abbrev rules : Rules
  rules = rules_of no_change plain_break contents

  opportunities_plain : (text : List ℕ) → ArePlain (opportunities rules text)
  unfolding opportunities breaks_at_odd_values
  opportunities_plain text =
      elim (boundaries_by rules text) as (λ found. ArePlain (option_map_or (opportunities_in rules text) found [])) [
        | None ↦ tt
        | Some bounds ↦
            elim (finite.get contents.exceptions text) as (λ found. ArePlain (unwrap_or (option_map (λ listed. breaks_within listed bounds) (option_map (map plain_break) found)) (by_patterns rules text bounds))) [
              | None ↦ plain_within (rules.allowed text) bounds (plain_made (winning_break no_change (entries_of_keys contents) text) (changes_nothing (entries_of_keys contents) text) _)
              | Some listed ↦ plain_within (map plain_break listed) bounds (plain_made plain_break (λ _. refl) listed)
            ]
      ]

  -- The breaks of a standard dictionary are plain.
  pub breaks_plain : ArePlain (all_breaks_of rules word)
  unfolding breaks_as_written
  breaks_plain =
      let found : List Break = opportunities rules (fold_case word) in
      elim (length (soft_hyphens word) == 0) as (λ t. ArePlain (cond t (map (break_carried_back word) found) (map plain_break (soft_hyphens word)))) [
        | true ↦ carried_plain word found (opportunities_plain (fold_case word))
        | false ↦ plain_made plain_break (λ _. refl) (soft_hyphens word)
      ]

  -- All breaks of a standard dictionary are kept.
  pub fitted_alike : ValueIsBorne (Unit {0}) → IsDictionary no_change plain_break contents → IsUtf8 word → fitted_breaks_of rules word ≡ all_breaks_of rules word
  unfolding fitted_breaks_of
  fitted_alike borne kept u =
      let all = opportunities rules (fold_case word) in
      let ascend : Ascending (fold_case word) all = opportunities_ascend rules (fold_case word) (rules_are_sound no_change plain_break contents (fold_case word) borne kept (fold_is_utf8 word u)) in
      ap (breaks_as_written word) (sym (fitted_by_shifts word all) ∙ plain_kept (fold_case word) (shifts_of word) all ascend (opportunities_plain (fold_case word)))
