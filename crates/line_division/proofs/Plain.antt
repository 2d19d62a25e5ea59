-- Paragraphs in which nothing but what is spent counts.
use Rattle.std.proofs.Common.{◌≡◌, ℕ, ◌+◌, ◌-◌, ◌<◌, ◌≤◌, zero, suc, Option, None, List, [], ◌∷◌, length, sym, ap, subst, refl, arith, inl, inr}
use Rattle.std.specs.List.{sum_by, slice_range}
use Rattle.std.proofs.lemmas.Bool.{cases_lt}
use Rattle.line_division.specs.declared.stretch.Stretch.{Stretch}
use Rattle.line_division.specs.declared.cost.Cost.{Cost}
use Rattle.line_division.specs.declared.table.Choices.{Choices}
use Rattle.line_division.specs.Lines.{stretch_at, joined_width, line_width, hyphens_to, line_over}
use Rattle.line_division.specs.Division.{MayStand, Divides, EachFits, KeepsLadder, cost_of}
use Rattle.line_division.specs.Private.Best.{IsLeast, IsKnown, AreBest}
use Rattle.line_division.specs.Private.Table.{choice_at}
use Rattle.line_division.specs.Private.Plain.{IsPlain, IsSpentAlone}
use Rattle.line_division.proofs.Widths.{width_to}
use Rattle.line_division.proofs.Reaching.{joined_none}
use Rattle.line_division.proofs.Least.{fits_no_excess, excess_least}
use Rattle.line_division.proofs.Runs.{keeps_none_over, over_least}

-- A line of one stretch fits.
plain_alone : (stretches : List Stretch) (columns : ℕ) (ladder : Option ℕ) (start : ℕ) → IsPlain stretches columns ladder → line_width stretches start (start + 1) ≤ columns
plain_alone stretches columns ladder start plain = omega (arith, width_to stretches start start, joined_none stretches start, plain.1 start)

-- A line that may stand fits.
pub plain_stands : (stretches : List Stretch) (columns : ℕ) (ladder : Option ℕ) (start end : ℕ) → IsPlain stretches columns ladder → MayStand stretches columns start end → line_width stretches start end ≤ columns
plain_stands stretches columns ladder start end plain stands =
    elim stands [
      | inl fit ↦ fit
      | inr alone ↦ subst (λ e. line_width stretches start e ≤ columns) (sym alone) (plain_alone stretches columns ladder start plain)
    ]

-- A line that does not fit holds more than one stretch.
pub plain_longer : (stretches : List Stretch) (columns : ℕ) (ladder : Option ℕ) (start last : ℕ) → IsPlain stretches columns ladder → start ≤ last
    → columns < (stretch_at stretches start).opening + sum_by joined_width (slice_range stretches start last) + (stretch_at stretches last).width + (stretch_at stretches last).closing
    → start < last
plain_longer stretches columns ladder start last plain le wide =
    elim (cases_lt start last) [
      | inl more ↦ more
      | inr none ↦
          let same : start ≡ last = omega (arith, le, none) in
          let fit = subst (λ p. line_width stretches start (p + 1) ≤ columns) same (plain_alone stretches columns ladder start plain) in
          absurd (omega (arith, fit, width_to stretches start last, wide))
    ]

-- No line is over the ladder.
pub plain_over : (ladder : Option ℕ) (hyphens : ℕ) → ladder ≡ None → line_over ladder hyphens ≡ 0
plain_over ladder hyphens none = ap (λ l. line_over l hyphens) none

-- ---- each stretch in a line of its own

abbrev ends_alone : ℕ → ℕ → List ℕ
ends_alone start zero = []
ends_alone start (suc more) = (start + 1) ∷ ends_alone (start + 1) more

alone_divides : (stretches : List Stretch) (columns start more : ℕ) → start + more ≡ length stretches → Divides stretches columns start (ends_alone start more)
alone_divides stretches columns start zero same = omega (arith, same)
alone_divides stretches columns start (suc more) same = (omega arith, inr refl, alone_divides stretches columns (start + 1) more (omega (arith, same)))

alone_fits : (stretches : List Stretch) (columns : ℕ) (ladder : Option ℕ) (start more : ℕ) → IsPlain stretches columns ladder → EachFits stretches columns start (ends_alone start more)
alone_fits stretches columns ladder start zero plain = tt
alone_fits stretches columns ladder start (suc more) plain = (plain_alone stretches columns ladder start plain, alone_fits stretches columns ladder (start + 1) more plain)

none_keeps : (stretches : List Stretch) (before : ℕ) (row : List ℕ) → KeepsLadder stretches None before row
none_keeps stretches before [] = tt
none_keeps stretches before (end ∷ row) = (tt, none_keeps stretches (hyphens_to stretches before end) row)

-- So a cost that no division falls below has nothing but what is spent.
pub plain_least : (stretches : List Stretch) (columns last_columns : ℕ) (ladder : Option ℕ) (run start : ℕ) (least : Cost) → start ≤ length stretches → IsPlain stretches columns ladder
    → IsLeast stretches columns last_columns ladder run start least → IsSpentAlone least
plain_least stretches columns last_columns ladder run start least within plain is_least =
    let more = length stretches - start in
    let row = ends_alone start more in
    let cost = cost_of stretches columns last_columns ladder run start row in
    let no_more = is_least row (alone_divides stretches columns start more (omega (arith, within))) in
    let excess : cost.excess ≡ 0 = fits_no_excess stretches columns last_columns ladder run start row (alone_fits stretches columns ladder start more plain) in
    let keeps : KeepsLadder stretches ladder run row = subst (λ l. KeepsLadder stretches l run row) (sym plain.0) (none_keeps stretches run row) in
    let over : cost.over ≡ 0 = keeps_none_over stretches columns last_columns ladder run start row keeps in
    (excess_least least cost no_more excess, over_least least cost no_more excess over)

-- ---- choices that are known

pub plain_known : (stretches : List Stretch) (columns last_columns : ℕ) (ladder : Option ℕ) (choices : Choices) (low known run place : ℕ) → IsPlain stretches columns ladder
    → AreBest stretches columns last_columns ladder choices low known → IsKnown ladder low known run place → place ≤ length stretches
    → IsSpentAlone (choice_at choices run place).cost
plain_known stretches columns last_columns ladder choices low known run place plain best is_known within =
    plain_least stretches columns last_columns ladder run place (choice_at choices run place).cost within plain (best.least run place is_known within)
