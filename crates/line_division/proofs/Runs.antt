-- Runs of hyphens, and the places where choices are kept.
use Rattle.std.proofs.Common.{◌≡◌, ℕ, ◌+◌, ◌-◌, ◌<◌, ◌≤◌, nat_lt, true, false, Option, Some, None, List, [], ◌∷◌, sym, ap, refl, ◌∙◌, arith, inl, inr}
use Rattle.std.proofs.lemmas.Bool.{cases_lt, cases_Bool, cond-true, cond-false}
use Rattle.line_division.specs.declared.stretch.Stretch.{Stretch}
use Rattle.line_division.specs.declared.cost.Cost.{Cost}
use Rattle.line_division.specs.Cost.{together}
use Rattle.line_division.specs.Lines.{stretch_at, line_width, raggedness, hyphens_to, line_over, line_cost}
use Rattle.line_division.specs.Division.{KeepsLadder, IsWithin, cost_of}
use Rattle.line_division.specs.Cost.{CostsNoMore}
use Rattle.line_division.specs.Private.Best.{runs, run_of}

pub runs_some : (ladder : Option ℕ) → 0 < runs ladder
runs_some None = omega arith
runs_some (Some most) = omega arith

pub run_within : (ladder : Option ℕ) (hyphens : ℕ) → run_of ladder hyphens < runs ladder
run_within ladder hyphens = grind (arith, runs_some ladder)

-- Runs that are as long as any that is told apart are over the ladder alike.
full_over : (ladder : Option ℕ) (one other : ℕ) → runs ladder ≤ one → runs ladder ≤ other → line_over ladder one ≡ line_over ladder other
full_over None one other full full_too = refl
full_over (Some most) one other full full_too =
    let first : nat_lt most one ≡ true = grind (arith, full) in
    let second : nat_lt most other ≡ true = grind (arith, full_too) in
    cond-true _ _ _ first ∙ sym (cond-true _ _ _ second)

-- Lines cost the same after any runs that are as long as the longest that is told apart.
full_same : (stretches : List Stretch) (columns last_columns : ℕ) (ladder : Option ℕ) (one other start : ℕ) (row : List ℕ) → runs ladder ≤ one + 1 → runs ladder ≤ other + 1
    → cost_of stretches columns last_columns ladder one start row ≡ cost_of stretches columns last_columns ladder other start row
full_same stretches columns last_columns ladder one other start [] full full_too = refl
full_same stretches columns last_columns ladder one other start (end ∷ row) full full_too =
    let costs : ℕ → Cost = λ h. together (line_cost stretches columns last_columns ladder h start end) (cost_of stretches columns last_columns ladder h end row) in
    elim (cases_Bool (stretch_at stretches (end - 1)).hyphenated) [
      | inl ends_so ↦
          let over = full_over ladder (one + 1) (other + 1) full full_too in
          let line : line_cost stretches columns last_columns ladder (one + 1) start end ≡ line_cost stretches columns last_columns ladder (other + 1) start end =
          ap (λ o. record { excess = line_width stretches start end - columns; over = o; spent = raggedness stretches columns last_columns start end + (stretch_at stretches (end - 1)).price }) over in
          let later = full_same stretches columns last_columns ladder (one + 1) (other + 1) end row (omega (arith, full)) (omega (arith, full_too)) in
          let first : hyphens_to stretches one end ≡ one + 1 = cond-true _ _ _ ends_so in
          let second : hyphens_to stretches other end ≡ other + 1 = cond-true _ _ _ ends_so in
          ap costs first
          ∙ ap (λ l. together l (cost_of stretches columns last_columns ladder (one + 1) end row)) line
          ∙ ap (together (line_cost stretches columns last_columns ladder (other + 1) start end)) later
          ∙ sym (ap costs second)
      | inr not_so ↦
          let first : hyphens_to stretches one end ≡ 0 = cond-false _ _ _ not_so in
          let second : hyphens_to stretches other end ≡ 0 = cond-false _ _ _ not_so in
          ap costs first ∙ sym (ap costs second)
    ]

-- Lines cost the same after hyphens as after the run that stands for them.
pub run_same : (stretches : List Stretch) (columns last_columns : ℕ) (ladder : Option ℕ) (hyphens start : ℕ) (row : List ℕ)
    → cost_of stretches columns last_columns ladder (run_of ladder hyphens) start row ≡ cost_of stretches columns last_columns ladder hyphens start row
run_same stretches columns last_columns ladder hyphens start row =
    elim (cases_lt hyphens (runs ladder)) [
      | inl few ↦
          let told : nat_lt hyphens (runs ladder) ≡ true = grind (arith, few) in
          ap (λ r. cost_of stretches columns last_columns ladder r start row) (cond-true _ _ _ told)
      | inr full ↦
          let told : nat_lt hyphens (runs ladder) ≡ false = grind (arith, full) in
          ap (λ r. cost_of stretches columns last_columns ladder r start row) (cond-false _ _ _ told)
          ∙ full_same stretches columns last_columns ladder (runs ladder - 1) hyphens start row (omega (arith, runs_some ladder)) (omega (arith, full))
    ]

-- ---- lines that keep to a ladder

within_not_over : (ladder : Option ℕ) (hyphens : ℕ) → IsWithin ladder hyphens → line_over ladder hyphens ≡ 0
within_not_over None hyphens within = refl
within_not_over (Some most) hyphens within =
    let told : nat_lt most hyphens ≡ false = grind (arith, within) in
    cond-false _ _ _ told

not_over_within : (ladder : Option ℕ) (hyphens : ℕ) → line_over ladder hyphens ≡ 0 → IsWithin ladder hyphens
not_over_within None hyphens none = tt
not_over_within (Some most) hyphens none =
    elim (cases_lt most hyphens) [
      | inl more ↦
          let told : nat_lt most hyphens ≡ true = grind (arith, more) in
          let one : line_over (Some most) hyphens ≡ 1 = cond-true _ _ _ told in
          absurd (omega (arith, none, one))
      | inr within ↦ within
    ]

pub keeps_none_over : (stretches : List Stretch) (columns last_columns : ℕ) (ladder : Option ℕ) (before start : ℕ) (row : List ℕ) → KeepsLadder stretches ladder before row → (cost_of stretches columns last_columns ladder before start row).over ≡ 0
keeps_none_over stretches columns last_columns ladder before start [] keeps = refl
keeps_none_over stretches columns last_columns ladder before start (end ∷ row) keeps =
    let here = within_not_over ladder (hyphens_to stretches before end) keeps.0 in
    let rest = keeps_none_over stretches columns last_columns ladder (hyphens_to stretches before end) end row keeps.1 in
    omega (arith, here, rest)

pub none_over_keeps : (stretches : List Stretch) (columns last_columns : ℕ) (ladder : Option ℕ) (before start : ℕ) (row : List ℕ) → (cost_of stretches columns last_columns ladder before start row).over ≡ 0 → KeepsLadder stretches ladder before row
none_over_keeps stretches columns last_columns ladder before start [] none = tt
none_over_keeps stretches columns last_columns ladder before start (end ∷ row) none = (
  not_over_within ladder (hyphens_to stretches before end) (omega (arith, none)),
  none_over_keeps stretches columns last_columns ladder (hyphens_to stretches before end) end row (omega (arith, none)),
)

pub over_least : (one other : Cost) → CostsNoMore one other → other.excess ≡ 0 → other.over ≡ 0 → one.over ≡ 0
over_least one other h fits none =
    elim h [
      | inl less ↦ absurd (omega (arith, less, fits))
      | inr same ↦ elim same.1 [ inl fewer ↦ absurd (omega (arith, fewer, none)) | inr as_many ↦ omega (arith, as_many.0, none) ]
    ]
