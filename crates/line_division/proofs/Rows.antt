-- Lines that are kept for runs of hyphens.
use Rattle.std.proofs.Common.{◌≡◌, ℕ, ◌<◌, ◌≤◌, nat_lt, zero, suc, true, false, List, [], ◌∷◌, ◌++◌, length, drop, sym, ap, subst, refl, ◌∙◌, arith, inl, inr}
use Rattle.std.proofs.lemmas.Bool.{cases_lt, cond-true, cond-false}
use Rattle.std.proofs.lemmas.List.{drop-append-le}
use Rattle.line_division.specs.declared.table.Kept.{Kept}
use Rattle.line_division.specs.Private.Table.{kept_for, HasRun, AreShorter}

-- A line that is for a run or a longer one is taken, if it is the first one.
pub kept_first : (kept : Kept) (row : List Kept) (run : ℕ) → run ≤ kept.last_run → kept_for (kept ∷ row) run ≡ kept
kept_first kept row run le =
    let told : nat_lt kept.last_run run ≡ false = grind (arith, le) in
    cond-false _ _ _ told

-- A line that is for shorter runs is passed.
pub kept_passed : (kept : Kept) (row : List Kept) (run : ℕ) → kept.last_run < run → kept_for (kept ∷ row) run ≡ kept_for row run
kept_passed kept row run less =
    let told : nat_lt kept.last_run run ≡ true = grind (arith, less) in
    cond-true _ _ _ told

-- The line that is taken for a run is taken for a longer one, too, up to the longest that it is for.
pub kept_alike : (row : List Kept) (run other : ℕ) → run ≤ other → other ≤ (kept_for row run).last_run → kept_for row other ≡ kept_for row run
kept_alike [] run other le upto = refl
kept_alike (kept ∷ row) run other le upto =
    elim (cases_lt kept.last_run run) [
      | inl less ↦
          let passed = kept_passed kept row run less in
          let rest = kept_alike row run other le (subst (λ k. other ≤ k.last_run) passed upto) in
          kept_passed kept row other (omega (arith, less, le)) ∙ rest ∙ sym passed
      | inr more ↦
          let taken = kept_first kept row run more in
          kept_first kept row other (subst (λ k. other ≤ k.last_run) taken upto) ∙ sym taken
    ]

-- The line that is taken is for the run, where one is.
pub has_reaches : (row : List Kept) (run : ℕ) → HasRun row run → run ≤ (kept_for row run).last_run
has_reaches [] run has = absurd has
has_reaches (kept ∷ row) run has =
    elim (cases_lt kept.last_run run) [
      | inl less ↦ subst (λ k. run ≤ k.last_run) (sym (kept_passed kept row run less)) (has_reaches row run (elim has [ inl upto ↦ absurd (omega (arith, less, upto)) | inr rest ↦ rest ]))
      | inr more ↦ subst (λ k. run ≤ k.last_run) (sym (kept_first kept row run more)) more
    ]

-- Further lines at the end leave what is taken.
pub has_more : (row more : List Kept) (run : ℕ) → HasRun row run → HasRun (row ++ more) run
has_more [] more run has = absurd has
has_more (kept ∷ row) more run has = elim has [ inl upto ↦ inl upto | inr rest ↦ inr (has_more row more run rest) ]

pub kept_more : (row more : List Kept) (run : ℕ) → HasRun row run → kept_for (row ++ more) run ≡ kept_for row run
kept_more [] more run has = absurd has
kept_more (kept ∷ row) more run has =
    elim (cases_lt kept.last_run run) [
      | inl less ↦
          let rest : kept_for (row ++ more) run ≡ kept_for row run = elim has [ inl upto ↦ absurd (omega (arith, less, upto)) | inr rest ↦ kept_more row more run rest ] in
          kept_passed kept (row ++ more) run less ∙ rest ∙ sym (kept_passed kept row run less)
      | inr upto ↦ kept_first kept (row ++ more) run upto ∙ sym (kept_first kept row run upto)
    ]

-- Lines from a place on, with one of a run, begin within the list.
pub has_within : (all : List Kept) (at run : ℕ) → HasRun (drop at all) run → at < length all
has_within [] zero run has = absurd has
has_within [] (suc at) run has = absurd has
has_within (kept ∷ all) zero run has = omega arith
has_within (kept ∷ all) (suc at) run has = let rest = has_within all at run has in omega (arith, rest)

-- ---- a line at the end

-- A line after those of shorter runs is taken.
pub kept_end : (row : List Kept) (kept : Kept) (known run : ℕ) → AreShorter row known → known ≤ run → run ≤ kept.last_run → kept_for (row ++ kept ∷ []) run ≡ kept
kept_end [] kept known run shorter le upto = kept_first kept [] run upto
kept_end (one ∷ row) kept known run shorter le upto = kept_passed one (row ++ kept ∷ []) run (omega (arith, shorter.0, le)) ∙ kept_end row kept known run shorter.1 le upto

pub has_end : (row : List Kept) (kept : Kept) (run : ℕ) → run ≤ kept.last_run → HasRun (row ++ kept ∷ []) run
has_end [] kept run upto = inl upto
has_end (one ∷ row) kept run upto = inr (has_end row kept run upto)

pub shorter_end : (row : List Kept) (kept : Kept) (known run : ℕ) → AreShorter row known → known ≤ run → kept.last_run < run → AreShorter (row ++ kept ∷ []) run
shorter_end [] kept known run shorter le less = (less, tt)
shorter_end (one ∷ row) kept known run shorter le less = (omega (arith, shorter.0, le), shorter_end row kept known run shorter.1 le less)

-- A line at the end of all leaves what is taken from a place on.
has_from : (all more : List Kept) (at run : ℕ) → HasRun (drop at all) run → drop at (all ++ more) ≡ drop at all ++ more
has_from all more at run has = drop-append-le at all more (omega (arith, has_within all at run has))

pub kept_added : (first : Kept) (all more : List Kept) (at run : ℕ) → HasRun (first ∷ drop at all) run → kept_for (first ∷ drop at (all ++ more)) run ≡ kept_for (first ∷ drop at all) run
kept_added first all more at run has =
    elim (cases_lt first.last_run run) [
      | inl less ↦
          let rest : HasRun (drop at all) run = elim has [ inl upto ↦ absurd (omega (arith, less, upto)) | inr rest ↦ rest ] in
          kept_passed first (drop at (all ++ more)) run less ∙ ap (λ row. kept_for row run) (has_from all more at run rest) ∙ kept_more (drop at all) more run rest ∙ sym (kept_passed first (drop at all) run less)
      | inr upto ↦ kept_first first (drop at (all ++ more)) run upto ∙ sym (kept_first first (drop at all) run upto)
    ]

pub has_added : (first : Kept) (all more : List Kept) (at run : ℕ) → HasRun (first ∷ drop at all) run → HasRun (first ∷ drop at (all ++ more)) run
has_added first all more at run has =
    elim has [
      | inl upto ↦ inl upto
      | inr rest ↦ inr (subst (λ row. HasRun row run) (sym (has_from all more at run rest)) (has_more (drop at all) more run rest))
    ]

pub drop_whole : (all : List Kept) → drop (length all) all ≡ []
drop_whole [] = refl
drop_whole (kept ∷ all) = drop_whole all
