-- The breaks that an extended dictionary computes are those of the definitions.
use Rattle.std.proofs.Common.{◌≡◌, ◌≢◌, ℕ, ◌<◌, ◌^◌, ◌==◌, true, false, Result, Ok, Err, List, [], ◌∷◌, ◌++◌, length, map, take, drop, Option, refl, sym, ap, subst, ◌∙◌, arith}
use Rattle.std.specs.Result.{OnOk}
use Rattle.std.specs.Str.{IsUtf8}
use Rattle.std.proofs.lemmas.List.{take_at}
use Rattle.std.proofs.lemmas.Bool.{cond-true, cond-false, cond_both}
use Rattle.hyphenation_breaks.specs.Break.{Break, Change, plain_break}
use Rattle.hyphenation_breaks.specs.Dictionary.{Contents}
use Rattle.hyphenation_breaks.specs.Invariant.{IsDictionary}
use Rattle.hyphenation_hyphenator.specs.declared.case_folding.Shift.{Shift}
use Rattle.hyphenation_score.specs.Laws.{ValueIsBorne, WinnerIsFirst}
use Rattle.hyphenation_segments.specs.Fits.{Fits}
use Rattle.hyphenation_hyphenator.specs.Fitting.{kept_breaks, fitted_breaks, fitted_breaks_of, KeepRanges}
use Rattle.hyphenation_hyphenator.specs.Private.Fitting.{range_holds_no_shift}
use Rattle.hyphenation_hyphenator.specs.Folding.{fold_case, shifts_of}
use Rattle.hyphenation_hyphenator.specs.Opportunities.{Rules, rules_of, opportunities, break_carried_back, Ascending, breaks_as_written}
use Rattle.hyphenation_hyphenator.specs.Private.Opportunities.{realigned_break}
use Rattle.hyphenation_hyphenator.specs.SoftHyphens.{soft_hyphens}
use Rattle.hyphenation_hyphenator.proofs.Fitting.{AreRanged, fitted_fit, fitted_keep, fitted_by_shifts, fitted_realigned}
use Rattle.hyphenation_hyphenator.proofs.Folds.{fold_is_utf8}
use Rattle.hyphenation_hyphenator.proofs.BreakRanges.{opportunities_ranged}
use Rattle.hyphenation_hyphenator.proofs.RulesAscend.{rules_are_sound, opportunities_ascend, increasing_fit, fits_ascends, to_ascending}
use Rattle.hyphenation_hyphenator.proofs.SoftHyphens.{ascending, within}

-- Places with no change are plain breaks.
pub made_plain : {X : Type 0} (m : X → Break) (make : ℕ → X) (xs : List ℕ) → ((p : ℕ) → m (make p) ≡ plain_break p) → map m (map make xs) ≡ map plain_break xs
made_plain m make [] h = refl
made_plain m make (x ∷ xs) h = ap (λ b. b ∷ map m (map make xs)) (h x) ∙ ap (λ bs. plain_break x ∷ bs) (made_plain m make xs h)

pub some_soft_hyphens : (xs : List ℕ) → xs ≢ [] → (length xs == 0) ≡ false
some_soft_hyphens [] h = absurd (h refl)
some_soft_hyphens (x ∷ xs) h = grind (arith)

-- A vector holds the items that were written to all of it.
pub whole_written : {X : Type 0} (len : ℕ) (new items : List X) → length new ≡ len → take len (new ++ drop (length new) items) ≡ new
whole_written len new items e = take_at new (drop (length new) items) len e

pub on_ok_always : {X E : Type 0} (r : Result X E) (P : Type 0) → P → OnOk r P
on_ok_always (Ok x) P h = h
on_ok_always (Err e) P h = tt

-- The steps of hyphenating a word: folded, found, kept and carried back.
pub record Carries (rules : Rules) (word folded : List ℕ) (size : ℕ) (shifts : List Shift) (found kept new : List Break) : Type 0 where
  pub folded_is : folded ≡ fold_case word
  pub size_is : size ≡ length folded
  pub shifts_are : shifts ≡ shifts_of word
  pub found_are : found ≡ opportunities rules folded
  pub ascend : Ascending folded found
  pub kept_are : kept ≡ kept_breaks (range_holds_no_shift size shifts) found
  pub new_are : new ≡ map (realigned_break shifts) kept

pub carried_fitted : (rules : Rules) (word folded : List ℕ) (size : ℕ) (shifts : List Shift) (found kept new : List Break) → IsUtf8 word → length word < 2 ^ 64 → Carries rules word folded size shifts found kept new
    → new ≡ map (break_carried_back word) (fitted_breaks word (opportunities rules (fold_case word)))
carried_fitted rules word folded size shifts found kept new u l c =
    let all = opportunities rules (fold_case word) in
    let found_is : found ≡ all = c.found_are ∙ ap (opportunities rules) c.folded_is in
    let size_is : size ≡ length (fold_case word) = c.size_is ∙ ap length c.folded_is in
    let ascend : Ascending (fold_case word) all = subst (Ascending (fold_case word)) found_is (subst (λ t. Ascending t found) c.folded_is c.ascend) in
    let kept_is : kept ≡ fitted_breaks word all =
    c.kept_are ∙ ap (λ n. kept_breaks (range_holds_no_shift n shifts) found) size_is ∙ ap (λ s. kept_breaks (range_holds_no_shift (length (fold_case word)) s) found) c.shifts_are
    ∙ ap (kept_breaks (range_holds_no_shift (length (fold_case word)) (shifts_of word))) found_is ∙ fitted_by_shifts word all in
    c.new_are ∙ ap (λ s. map (realigned_break s) kept) c.shifts_are ∙ ap (map (realigned_break (shifts_of word))) kept_is ∙ fitted_realigned word all u l ascend

pub breaks_are : (rules : Rules) (word folded : List ℕ) (size : ℕ) (shifts : List Shift) (found kept new : List Break) → IsUtf8 word → length word < 2 ^ 64 → (length (soft_hyphens word) == 0) ≡ true → Carries rules word folded size shifts found kept new
    → new ≡ fitted_breaks_of rules word
unfolding fitted_breaks_of breaks_as_written
breaks_are rules word folded size shifts found kept new u l none c =
    carried_fitted rules word folded size shifts found kept new u l c
    ∙ sym (cond-true (length (soft_hyphens word) == 0) (map (break_carried_back word) (fitted_breaks word (opportunities rules (fold_case word)))) (map plain_break (soft_hyphens word)) none)

pub soft_breaks_are : (rules : Rules) (word : List ℕ) (found : List Break) → soft_hyphens word ≢ [] → found ≡ map plain_break (soft_hyphens word) → found ≡ fitted_breaks_of rules word
unfolding fitted_breaks_of breaks_as_written
soft_breaks_are rules word found some is =
    is ∙ sym (cond-false (length (soft_hyphens word) == 0) (map (break_carried_back word) (fitted_breaks word (opportunities rules (fold_case word)))) (map plain_break (soft_hyphens word)) (some_soft_hyphens (soft_hyphens word) some))

-- The opportunities that are kept fit the word as written, and their ranges have as many bytes there.
module _ {C B : Type 0} (change_of : C → Option Change) (break_of : B → Break) (contents : Contents C B) (word : List ℕ) (borne : ValueIsBorne C) (first : WinnerIsFirst C)
    (kept : IsDictionary change_of break_of contents) (u : IsUtf8 word) where
  abbrev all : List Break
  all = opportunities (rules_of change_of break_of contents) (fold_case word)

  ascend : Ascending (fold_case word) all
  ascend = opportunities_ascend (rules_of change_of break_of contents) (fold_case word) (rules_are_sound change_of break_of contents (fold_case word) borne kept (fold_is_utf8 word u))

  ranged : AreRanged (fold_case word) all
  ranged = opportunities_ranged change_of break_of contents (fold_case word) borne first kept (fold_is_utf8 word u)

  pub opportunities_fit : Fits word (map (break_carried_back word) (fitted_breaks word all))
  opportunities_fit = fitted_fit word all u ascend ranged

  pub opportunities_keep : KeepRanges (rules_of change_of break_of contents) word
  opportunities_keep = fitted_keep word all u ascend ranged

  -- All breaks of a word as written fit it, also where they are its soft hyphens.
  pub breaks_fit : Fits word (fitted_breaks_of (rules_of change_of break_of contents) word)
  unfolding fitted_breaks_of breaks_as_written
  breaks_fit =
      cond_both (length (soft_hyphens word) == 0) (map (break_carried_back word) (fitted_breaks word all)) (map plain_break (soft_hyphens word)) (Fits word)
      (λ _. opportunities_fit) (λ _. increasing_fit word (soft_hyphens word) (ascending word) (within word u))

  pub breaks_ascend : Ascending word (fitted_breaks_of (rules_of change_of break_of contents) word)
  breaks_ascend =
      let found = fitted_breaks_of (rules_of change_of break_of contents) word in
      to_ascending word found (fits_ascends word 0 0 found breaks_fit)
