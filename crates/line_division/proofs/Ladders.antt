-- Where the best division without a ladder keeps to one.
use Rattle.std.proofs.Common.{◌≡◌, ℕ, ◌+◌, ◌<◌, ◌≤◌, zero, suc, Option, Some, None, List, [], ◌∷◌, length, drop, slice_index_or, sym, subst, refl, arith, inl, inr}
use Rattle.std.proofs.lemmas.Bool.{cases_eq}
use Rattle.std.proofs.lemmas.List.{drop_more}
use Rattle.line_division.specs.declared.stretch.Stretch.{Stretch}
use Rattle.line_division.specs.declared.cost.Cost.{Cost}
use Rattle.line_division.specs.Cost.{CostsNoMore}
use Rattle.line_division.specs.Lines.{hyphens_to}
use Rattle.line_division.specs.Division.{Divides, KeepsLadder, CostsLeast, cost_of}
use Rattle.line_division.specs.Private.Ladder.{AreEnds}
use Rattle.line_division.proofs.Least.{divides_within}
use Rattle.line_division.proofs.Runs.{keeps_none_over}

-- The ends of a division are ends.
pub divides_ends : (stretches : List Stretch) (columns start : ℕ) (row : List ℕ) → Divides stretches columns start row → AreEnds stretches row
divides_ends stretches columns start [] divides k few = absurd (omega (arith, few))
divides_ends stretches columns start (end ∷ row) divides zero few = (omega (arith, divides.0), divides_within stretches columns end row divides.2)
divides_ends stretches columns start (end ∷ row) divides (suc k) few = divides_ends stretches columns end row divides.2 k (omega (arith, few))

-- ---- what a ladder leaves as it is

same_excess : (stretches : List Stretch) (columns last_columns : ℕ) (ladder : Option ℕ) (before start : ℕ) (row : List ℕ)
    → (cost_of stretches columns last_columns ladder before start row).excess ≡ (cost_of stretches columns last_columns None before start row).excess
same_excess stretches columns last_columns ladder before start [] = refl
same_excess stretches columns last_columns ladder before start (end ∷ row) =
    let rest = same_excess stretches columns last_columns ladder (hyphens_to stretches before end) end row in omega (arith, rest)

same_spent : (stretches : List Stretch) (columns last_columns : ℕ) (ladder : Option ℕ) (before start : ℕ) (row : List ℕ)
    → (cost_of stretches columns last_columns ladder before start row).spent ≡ (cost_of stretches columns last_columns None before start row).spent
same_spent stretches columns last_columns ladder before start [] = refl
same_spent stretches columns last_columns ladder before start (end ∷ row) =
    let rest = same_spent stretches columns last_columns ladder (hyphens_to stretches before end) end row in omega (arith, rest)

none_over : (stretches : List Stretch) (columns last_columns before start : ℕ) (row : List ℕ) → (cost_of stretches columns last_columns None before start row).over ≡ 0
none_over stretches columns last_columns before start [] = refl
none_over stretches columns last_columns before start (end ∷ row) =
    let rest = none_over stretches columns last_columns (hyphens_to stretches before end) end row in omega (arith, rest)

-- A cost that is no more without lines over the ladder is no more with them, if it has none itself.
no_more_over : (one other free free_other : Cost) → CostsNoMore free free_other → one.excess ≡ free.excess → one.spent ≡ free.spent → other.excess ≡ free_other.excess → other.spent ≡ free_other.spent
    → free.over ≡ 0 → free_other.over ≡ 0 → one.over ≡ 0 → CostsNoMore one other
no_more_over one other free free_other h excess spent other_excess other_spent none none_other own =
    elim h [
      | inl less ↦ inl (omega (arith, less, excess, other_excess))
      | inr same ↦ inr (
        omega (arith, same.0, excess, other_excess),
        elim same.1 [
          | inl fewer ↦ absurd (omega (arith, fewer, none, none_other))
          | inr as_many ↦ elim (cases_eq other.over 0) [
            | inl no_more ↦ inr (omega (arith, own, no_more), omega (arith, as_many.1, spent, other_spent))
            | inr some ↦ inl (omega (arith, own, some))
          ]
        ],
      )
    ]

-- A division that costs the least without a ladder costs the least with one that it keeps to.
pub free_least : (stretches : List Stretch) (columns last_columns : ℕ) (ladder : Option ℕ) (row : List ℕ) → CostsLeast stretches columns last_columns None row → KeepsLadder stretches ladder 0 row
    → CostsLeast stretches columns last_columns ladder row
free_least stretches columns last_columns ladder row least keeps other divides =
    no_more_over (cost_of stretches columns last_columns ladder 0 0 row) (cost_of stretches columns last_columns ladder 0 0 other)
    (cost_of stretches columns last_columns None 0 0 row) (cost_of stretches columns last_columns None 0 0 other) (least other divides)
    (same_excess stretches columns last_columns ladder 0 0 row) (same_spent stretches columns last_columns ladder 0 0 row)
    (same_excess stretches columns last_columns ladder 0 0 other) (same_spent stretches columns last_columns ladder 0 0 other)
    (none_over stretches columns last_columns 0 0 row) (none_over stretches columns last_columns 0 0 other)
    (keeps_none_over stretches columns last_columns ladder 0 0 row keeps)

-- ---- ends that are looked at one by one

-- Ends from a place on that keep to a ladder keep to it from the beginning.
abbrev pub GoesDown : List Stretch → ℕ → ℕ → List ℕ → List ℕ → Type 0
GoesDown stretches most hyphens rest all = KeepsLadder stretches (Some most) hyphens rest → KeepsLadder stretches (Some most) 0 all

pub down_further : (stretches : List Stretch) (most hyphens : ℕ) (all : List ℕ) (k end later : ℕ) → GoesDown stretches most hyphens (drop k all) all → k < length all → end ≡ slice_index_or all k end
    → later ≡ hyphens_to stretches hyphens end → later ≤ most → GoesDown stretches most later (drop (k + 1) all) all
down_further stretches most hyphens all k end later before within read is few rest =
    before (subst (KeepsLadder stretches (Some most) hyphens) (sym (drop_more all k end within))
    (subst (λ e. KeepsLadder stretches (Some most) hyphens (e ∷ drop (k + 1) all)) read
    (omega (arith, is, few), subst (λ h. KeepsLadder stretches (Some most) h (drop (k + 1) all)) is rest)))
