-- Breaks carried back, and the rules after a change of the exceptions.
use Rattle.std.proofs.Common.{◌≡◌, ◌≢◌, ℕ, ◌<◌, ◌^◌, ◌==◌, nat_eq, Result, Ok, Err, Bool, true, false, cond, List, [], ◌∷◌, length, map, take, chars, Option, Some, None, pos, ◌-ℤ◌, refl, sym, ap, ◌∙◌}
use Rattle.std.specs.Int.{saturate_unsigned, w64}
use Rattle.std.specs.Option.{IsSome, option_map}
use Rattle.std.specs.Result.{OnOk}
use Rattle.std.specs.FinMap as finite
use Rattle.std.specs.FinMap.{get-insert, get-remove}
use Rattle.std.specs.Cmp.Lexicographic.{pointwise, nat_list_cmp_total, nat_list_eq_equiv, texts_ties}
use Rattle.std.specs.Str.{IsUtf8, IsCharBoundary}
use Rattle.hyphenation_breaks.specs.Break.{Break, Change}
use Rattle.hyphenation_breaks.specs.Dictionary.{Contents}
use Rattle.hyphenation_hyphenator.specs.declared.case_folding.Shift.{Shift}
use Rattle.hyphenation_hyphenator.specs.Places.{place_of_character}
use Rattle.hyphenation_hyphenator.specs.Folding.{fold_case, carried_back, shifts_of, delta_below}
use Rattle.hyphenation_hyphenator.specs.Opportunities.{rules_of, ListsOnly}
use Rattle.hyphenation_hyphenator.proofs.Folds.{fold_is_utf8}
use Rattle.hyphenation_hyphenator.proofs.Places.{place_of_boundary}
use Rattle.hyphenation_hyphenator.proofs.Shifts.{realigned}

-- ---- breaks carried back

-- A place carried back by shifts.
abbrev pub realigned_by : List Shift → ℕ → ℕ
realigned_by shifts place = saturate_unsigned w64 (pos place -ℤ delta_below shifts place)

pub realigned_boundary : (word : List ℕ) (p : ℕ) → IsUtf8 word → length word < 2 ^ 64 → IsCharBoundary (fold_case word) p → realigned_by (shifts_of word) p ≡ carried_back word p
realigned_boundary word p u l at =
    let j = length (chars (take p (fold_case word))) in
    let is : p ≡ place_of_character (fold_case word) j = place_of_boundary (fold_case word) p (fold_is_utf8 word u) at in
    ap (realigned_by (shifts_of word)) is ∙ realigned word j u l

pub no_soft_hyphens : (xs : List ℕ) → ((xs ≢ []) → ⊥) → (length xs == 0) ≡ true
no_soft_hyphens [] h = refl
no_soft_hyphens (x ∷ xs) h = absurd (h (λ e. cc))

chosen_map : {B : Type 0} (break_of : B → Break) (b : Bool) (x y : Option (List B)) → option_map (map break_of) (cond b x y) ≡ cond b (option_map (map break_of) x) (option_map (map break_of) y)
chosen_map break_of true x y = refl
chosen_map break_of false x y = refl

-- The rules after a change of the exceptions.
pub lists_inserted : {C B : Type 0} (change_of : C → Option Change) (break_of : B → Break) (contents : Contents C B) (word : List ℕ) (listed : List B)
    → ListsOnly (rules_of change_of break_of contents) (rules_of change_of break_of (record contents { exceptions = finite.insert contents.exceptions word listed })) word (Some (map break_of listed))
lists_inserted change_of break_of contents word listed = record {
  minima = refl;
  listed = λ other.
      ap (option_map (map break_of)) (get-insert nat_list_cmp_total contents.exceptions word listed other ∙ ap (λ b. cond b (Some listed) (finite.get contents.exceptions other)) (sym (texts_ties other word) ∙ nat_list_eq_equiv.symm other word))
      ∙ chosen_map break_of (pointwise nat_eq word other) (Some listed) (finite.get contents.exceptions other);
  allowed = λ other. refl;
}

pub lists_removed : {C B : Type 0} (change_of : C → Option Change) (break_of : B → Break) (contents : Contents C B) (word : List ℕ)
    → ListsOnly (rules_of change_of break_of contents) (rules_of change_of break_of (record contents { exceptions = finite.remove contents.exceptions word })) word None
lists_removed change_of break_of contents word = record {
  minima = refl;
  listed = λ other.
      ap (option_map (map break_of)) (get-remove nat_list_cmp_total contents.exceptions word other ∙ ap (λ b. cond b None (finite.get contents.exceptions other)) (sym (texts_ties other word) ∙ nat_list_eq_equiv.symm other word))
      ∙ chosen_map break_of (pointwise nat_eq word other) None (finite.get contents.exceptions other);
  allowed = λ other. refl;
}

pub on_ok_then : {X E : Type 0} (r : Result X E) (P Q : Type 0) → (P → Q) → OnOk r P → OnOk r Q
on_ok_then (Ok x) P Q f h = f h
on_ok_then (Err e) P Q f h = tt

pub none_is_not_some : {X : Type 0} (o : Option X) → o ≡ None → IsSome o → ⊥
none_is_not_some None e h = absurd cc
none_is_not_some (Some x) e h = absurd cc
