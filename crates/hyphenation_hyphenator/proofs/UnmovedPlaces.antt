-- Words whose folding moves no place.
use Rattle.std.proofs.Common.{◌≡◌, ℕ, ◌+◌, ◌==◌, ◌&&◌, Bool, true, false, cond, nat_le, List, [], ◌∷◌, length, map, refl, sym, ap, ◌∙◌}
use Rattle.std.specs.Str.{IsCharBoundary}
use Rattle.std.proofs.lemmas.Bool.{cond-true}
use Rattle.hyphenation_breaks.specs.Break.{Break, plain_break, begin_of, end_of}
use Rattle.hyphenation_hyphenator.specs.Fitting.{range_keeps_lengths, kept_breaks, fitted_breaks, fitted_breaks_of}
use Rattle.hyphenation_hyphenator.specs.Private.Fitting.{range_holds_no_shift}
use Rattle.hyphenation_hyphenator.specs.Folding.{fold_case, carried_back, shifts_of}
use Rattle.hyphenation_hyphenator.specs.Opportunities.{Rules, opportunities, break_carried_back, Ascending, breaks_as_written}
use Rattle.hyphenation_hyphenator.specs.SoftHyphens.{soft_hyphens}
use Rattle.hyphenation_hyphenator.proofs.Fitting.{kept_from, kept_is, fitted_by_shifts}
use Rattle.hyphenation_hyphenator.proofs.RulesAscend.{AscendFrom, from_ascending}

-- Each place of the folded word is the same place of the word as written.
abbrev pub MovesNothing : List ℕ → Type 0
MovesNothing word = (p : ℕ) → IsCharBoundary (fold_case word) p → carried_back word p ≡ p

kept_stay : (word : List ℕ) (test : Break → Bool) (last_end least : ℕ) (breaks : List Break) → MovesNothing word → AscendFrom (fold_case word) least breaks
    → map (break_carried_back word) (kept_from test last_end breaks) ≡ kept_from test last_end breaks
kept_stay word test last_end least [] stays ascend = refl
kept_stay word test last_end least (b ∷ bs) stays ascend =
    let here : break_carried_back word b ≡ b = ap (λ p. record { place = p; change = b.change }) (stays b.place ascend.1) in
    elim (test b && nat_le last_end (begin_of b))
    as (λ t. map (break_carried_back word) (cond t (b ∷ kept_from test (end_of b) bs) (kept_from test last_end bs)) ≡ cond t (b ∷ kept_from test (end_of b) bs) (kept_from test last_end bs)) [
      | true ↦ ap (λ x. x ∷ map (break_carried_back word) (kept_from test (end_of b) bs)) here ∙ ap (λ xs. b ∷ xs) (kept_stay word test (end_of b) (b.place + 1) bs stays ascend.2)
      | false ↦ kept_stay word test last_end (b.place + 1) bs stays ascend.2
    ]

-- The kept breaks of the folded word, without shifts, are the breaks of the word as written.
pub breaks_where_unmoved : (rules : Rules) (word folded : List ℕ) (kept : List Break) → shifts_of word ≡ [] → soft_hyphens word ≡ [] → MovesNothing word → folded ≡ fold_case word → Ascending (fold_case word) (opportunities rules (fold_case word))
    → kept ≡ kept_breaks (range_holds_no_shift (length folded) []) (opportunities rules folded) → kept ≡ fitted_breaks_of rules word
unfolding fitted_breaks_of fitted_breaks breaks_as_written
breaks_where_unmoved rules word folded kept no_shifts no_hyphens stays folded_is ascend is =
    let all = opportunities rules (fold_case word) in
    let kept_are : kept ≡ fitted_breaks word all =
    is ∙ ap (λ t. kept_breaks (range_holds_no_shift (length t) []) (opportunities rules t)) folded_is ∙ ap (λ s. kept_breaks (range_holds_no_shift (length (fold_case word)) s) all) (sym no_shifts) ∙ fitted_by_shifts word all in
    let from : fitted_breaks word all ≡ kept_from (range_keeps_lengths word) 0 all = kept_is (range_keeps_lengths word) all in
    let stay : map (break_carried_back word) (fitted_breaks word all) ≡ fitted_breaks word all = ap (map (break_carried_back word)) from ∙ kept_stay word (range_keeps_lengths word) 0 0 all stays (from_ascending (fold_case word) all ascend) ∙ sym from in
    let none : (length (soft_hyphens word) == 0) ≡ true = ap (λ xs. length xs == 0) no_hyphens in
    kept_are ∙ sym stay ∙ sym (cond-true (length (soft_hyphens word) == 0) (map (break_carried_back word) (fitted_breaks word all)) (map plain_break (soft_hyphens word)) none)
