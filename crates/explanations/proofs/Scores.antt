-- The value of a place by the winners of all places.
use Rattle.std.proofs.Common.{◌≡◌, ℕ, ◌-◌, ◌≤◌, Bool, true, false, cond, eqb, List, length, map, get_or, Option, Some, None, refl, sym, ap, ◌∙◌, arith, slice_get, option_map}
use Rattle.std.specs.Option.{option_copied}
use Rattle.std.specs.Borrow.{Bor}
use Rattle.std.proofs.lemmas.Bool.Decides.{nat_tests}
use Rattle.std.proofs.lemmas.Option.{slice_get_read, slice_get-map}
use Rattle.hyphenation_breaks.specs.Break.{Change, is_boundary}
use Rattle.hyphenation_breaks.specs.declared.entry.Entry.{Entry}
use Rattle.hyphenation_score.specs.Scoring.{Scored, score_of_winner, value_of}
use Rattle.explanations.specs.Marks.{score_value}
use Rattle.explanations.specs.Private.Drawing.{scores_by}

not_zero : (n : ℕ) → (n ≡ 0 → ⊥) → eqb n 0 ≡ false
not_zero n h = grind (arith, nat_tests)

-- A place between two characters has the value of its winner.
pub score_known : {C : Type 0} (change_of : C → Option Change) (word : List ℕ) (winners : List (Option (Bor (Entry C)))) (place : ℕ) (winner : Option (Bor (Entry C)))
    → is_boundary word place ≡ true → (place ≡ 0 → ⊥) → place ≤ length winners → winner ≡ get_or winners (place - 1) winner
    → Some (value_of (option_copied winner)) ≡ score_value word (scores_by change_of winners) place
score_known {C} change_of word winners place winner boundary pos within read =
    let got : slice_get winners (place - 1) ≡ Some winner = slice_get_read winners (length winners) (place - 1) winner refl (omega arith) read in
    let copied : List (Option (Entry C)) = map option_copied winners in
    let mapped : slice_get (scores_by change_of winners) (place - 1) ≡ Some (score_of_winner change_of (option_copied winner)) =
    slice_get-map (score_of_winner change_of) copied (place - 1) ∙ ap (option_map (score_of_winner change_of)) (slice_get-map option_copied winners (place - 1) ∙ ap (option_map option_copied) got) in
    let value : Option Scored → Option ℕ = option_map (λ (s : Scored). s.value) in
    let found : Option ℕ = value (slice_get (scores_by change_of winners) (place - 1)) in
    sym (ap (λ (b : Bool). cond b (cond (eqb place 0) None found) None) boundary ∙ ap (λ (b : Bool). cond b None found) (not_zero place pos) ∙ ap value mapped)
