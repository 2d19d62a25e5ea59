-- How far lines reach, and which of them need not be tried.
use Rattle.std.proofs.Common.{◌≡◌, ℕ, ◌+◌, ◌-◌, ◌*◌, ◌<◌, ◌≤◌, ◌==◌, if◌then◌else◌, Bool, true, false, Option, List, ◌∷◌, length, take, drop, sym, ap, slice_index_or, subst, refl, ◌∙◌, arith, inl, inr}
use Rattle.std.specs.Bool.{MatchBool}
use Rattle.std.specs.List.{sum_by, slice_range}
use Rattle.std.proofs.lemmas.Bool.{cases_lt, cases_eq}
use Rattle.std.proofs.lemmas.List.{get_or_past, get_or_default}
use Rattle.std.proofs.lemmas.Nat.{mul-le}
use Rattle.line_division.specs.declared.stretch.Stretch.{Stretch}
use Rattle.line_division.specs.declared.cost.Cost.{Cost}
use Rattle.line_division.specs.declared.table.Choice.{Choice}
use Rattle.line_division.specs.declared.table.Choices.{Choices}
use Rattle.line_division.specs.Cost.{nothing, together, CostsNoMore}
use Rattle.line_division.specs.Lines.{no_stretch, stretch_at, joined_width, line_width, wanted_columns, hyphens_to, line_cost}
use Rattle.line_division.specs.Division.{Divides, cost_of}
use Rattle.line_division.specs.Greedy.{IsFurthest}
use Rattle.line_division.specs.Private.Best.{runs, run_of, over_cost, floor_after, IsLeast, IsMade, AreBest, IsFloor}
use Rattle.line_division.specs.Private.Table.{choice_at}
use Rattle.line_division.specs.Private.Reaches.{IsMostClosing}
use Rattle.line_division.proofs.Widths.{joined_more, joined_parts, joined_up}
use Rattle.line_division.proofs.Least.{nothing_least, no_more_along, no_more_together, made_least, least_at_last, divides_within}
use Rattle.line_division.proofs.Runs.{run_within, run_same}

-- The sum over no stretch.
pub joined_none : (stretches : List Stretch) (start : ℕ) → sum_by joined_width (slice_range stretches start start) ≡ 0
joined_none stretches start =
    let none : 0 ≡ start - start = omega arith in
    ap (λ n. sum_by joined_width (take n (drop start stretches))) (sym none)

-- The sum from a place, by the stretch that stands there.
pub joined_front : (stretches : List Stretch) (start end : ℕ) → start < end → end ≤ length stretches
    → sum_by joined_width (slice_range stretches start end) ≡ joined_width (stretch_at stretches start) + sum_by joined_width (slice_range stretches (start + 1) end)
joined_front stretches start end lt within =
    let place : start + 1 + (end - (start + 1)) ≡ end = omega arith in
    let parts = joined_parts stretches start (start + 1) (end - (start + 1)) (omega arith) (omega arith) in
    let there = subst (λ p. sum_by joined_width (slice_range stretches start p) ≡ sum_by joined_width (slice_range stretches start (start + 1)) + sum_by joined_width (slice_range stretches (start + 1) p)) place parts in
    let one = joined_more stretches start start (omega arith) (omega arith) in
    omega (arith, there, one, joined_none stretches start)

-- The sum up to a place, by the last stretch before it.
pub joined_back : (stretches : List Stretch) (start last : ℕ) → start < last → last ≤ length stretches
    → sum_by joined_width (slice_range stretches start last) ≡ sum_by joined_width (slice_range stretches start (last - 1)) + joined_width (stretch_at stretches (last - 1))
joined_back stretches start last lt within =
    let place : last - 1 + 1 ≡ last = omega arith in
    subst (λ p. sum_by joined_width (slice_range stretches start p) ≡ sum_by joined_width (slice_range stretches start (last - 1)) + joined_width (stretch_at stretches (last - 1))) place
    (joined_more stretches start (last - 1) (omega arith) (omega arith))

-- ---- how far lines reach

-- No line that goes past a stretch fits, whatever its opening and its closing are.
abbrev pub IsBeyond : List Stretch → ℕ → ℕ → ℕ → Type 0
IsBeyond stretches columns start last = (k : ℕ) → last < k → k < length stretches
    → columns < sum_by joined_width (slice_range stretches start k) + (stretch_at stretches k).width

pub beyond_earlier : (stretches : List Stretch) (columns start last : ℕ) → start < last → IsBeyond stretches columns (start + 1) last → IsBeyond stretches columns start last
beyond_earlier stretches columns start last lt beyond k after within =
    omega (arith, beyond k after within, joined_front stretches start k (omega arith) (omega arith))

pub beyond_less : (stretches : List Stretch) (columns start last : ℕ) → IsBeyond stretches columns start last
    → (last < length stretches → columns < sum_by joined_width (slice_range stretches start last) + (stretch_at stretches last).width) → IsBeyond stretches columns start (last - 1)
beyond_less stretches columns start last beyond here k after within =
    elim (cases_eq last k) [
      | inl same ↦ subst (λ p. columns < sum_by joined_width (slice_range stretches start p) + (stretch_at stretches p).width) same (here (omega (arith, same, within)))
      | inr other ↦ beyond k (omega arith) within
    ]

-- ---- the most that a stretch has

pub most_more : (measure : Stretch → ℕ) (stretches : List Stretch) (i most new : ℕ) → most ≤ new → measure (stretch_at stretches i) ≤ new
    → ((k : ℕ) → k < i → measure (stretch_at stretches k) ≤ most) → (k : ℕ) → k < i + 1 → measure (stretch_at stretches k) ≤ new
most_more measure stretches i most new up here before k less =
    elim (cases_lt k i) [
      | inl earlier ↦ omega (arith, before k earlier, up)
      | inr later ↦ let same : i ≡ k = omega (arith, later, less) in subst (λ p. measure (stretch_at stretches p) ≤ new) same here
    ]

pub most_all : (measure : Stretch → ℕ) (stretches : List Stretch) (i most : ℕ) → measure no_stretch ≡ 0 → length stretches ≤ i → ((k : ℕ) → k < i → measure (stretch_at stretches k) ≤ most) → (k : ℕ) → measure (stretch_at stretches k) ≤ most
most_all measure stretches i most none past before k =
    elim (cases_lt k i) [
      | inl earlier ↦ before k earlier
      | inr later ↦ omega (arith, none, ap measure (get_or_past stretches k no_stretch (omega arith)))
    ]

-- ---- lines that need not be tried

-- A choice costs no more than any division whose first line ends after a place.
abbrev pub IsLeastAfter : List Stretch → ℕ → ℕ → Option ℕ → ℕ → ℕ → ℕ → Cost → Type 0
IsLeastAfter stretches columns last_columns ladder run start place least =
    (end : ℕ) (row : List ℕ) → place < end → Divides stretches columns start (end ∷ row) → CostsNoMore least (cost_of stretches columns last_columns ladder run start (end ∷ row))

-- One more end is tried, and the better one kept.
pub least_tried : (stretches : List Stretch) (columns last_columns : ℕ) (ladder : Option ℕ) (choices : Choices) (run start last : ℕ) (old : Cost) (other : Choice)
    → IsLeastAfter stretches columns last_columns ladder run start (last + 1) old → IsMade stretches columns last_columns ladder choices run start other → other.end ≡ last + 1 → AreBest stretches columns last_columns ladder choices start run
    → (kept : Cost) → CostsNoMore kept old → CostsNoMore kept other.cost → IsLeastAfter stretches columns last_columns ladder run start last kept
least_tried stretches columns last_columns ladder choices run start last old other before made ends best kept no_more no_more_either end row after divides =
    elim (cases_lt (last + 1) end) [
      | inl later ↦ no_more_along kept old (cost_of stretches columns last_columns ladder run start (end ∷ row)) no_more (before end row later divides)
      | inr here ↦
          let same : other.end ≡ end = omega (arith, here, after, ends) in
          subst (λ e. CostsNoMore kept (cost_of stretches columns last_columns ladder run start (e ∷ row))) same
          (no_more_along kept other.cost (cost_of stretches columns last_columns ladder run start (other.end ∷ row)) no_more_either (made_least stretches columns last_columns ladder choices run run start other row made best (subst (λ e. Divides stretches columns e row) (sym same) divides.2)))
    ]

-- One more end is no choice, since its line doesn't fit.
pub least_wide : (stretches : List Stretch) (columns last_columns : ℕ) (ladder : Option ℕ) (run start last : ℕ) (old : Cost) → start < last → IsLeastAfter stretches columns last_columns ladder run start (last + 1) old
    → columns < line_width stretches start (last + 1) → IsLeastAfter stretches columns last_columns ladder run start last old
least_wide stretches columns last_columns ladder run start last old lt before wide end row after divides =
    elim (cases_lt (last + 1) end) [
      | inl later ↦ before end row later divides
      | inr here ↦ elim divides.1 [
        | inl fit ↦ let same : end ≡ last + 1 = omega (arith, here, after) in absurd (omega (arith, wide, subst (λ e. line_width stretches start e ≤ columns) same fit))
        | inr alone ↦ absurd (omega (arith, alone, after, lt))
      ]
    ]

-- All lines were tried.
pub least_all : (stretches : List Stretch) (columns last_columns : ℕ) (ladder : Option ℕ) (run start : ℕ) (least : Cost) → start < length stretches
    → IsLeastAfter stretches columns last_columns ladder run start start least → IsLeast stretches columns last_columns ladder run start least
least_all stretches columns last_columns ladder run start least lt after =
    least_at_last stretches columns last_columns ladder run start least lt (λ end row divides. after end row divides.0 divides)

-- A line that ends no later has no more columns than the longest one before its closing, and the most that a closing has.
pub no_wider : (stretches : List Stretch) (most start last end : ℕ) → IsMostClosing stretches most → start < end → end ≤ last + 1 → last < length stretches
    → line_width stretches start end ≤ (stretch_at stretches start).opening + sum_by joined_width (slice_range stretches start last) + (stretch_at stretches last).width + most
no_wider stretches most start last end closing lt le within =
    let own = closing (end - 1) in
    elim (cases_eq last (end - 1)) [
      | inl same ↦ subst (λ p. line_width stretches start end ≤ (stretch_at stretches start).opening + sum_by joined_width (slice_range stretches start p) + (stretch_at stretches p).width + most) (sym same) (omega (arith, own))
      | inr other ↦
          let place : end - 1 + 1 ≡ end = omega arith in
          let more = joined_more stretches start (end - 1) (omega arith) (omega (arith, le, within)) in
          let sum = ap (λ p. sum_by joined_width (slice_range stretches start p)) place in
          let up = joined_up stretches start end last (omega (arith, other, le)) in
          omega (arith, own, more, sum, up)
    ]

-- A line and what comes after it cost no less than the floor and a part of what the line spends.
pub no_more_above : (best floor line rest : Cost) (part : ℕ) → best.excess ≡ floor.excess → best.over ≡ floor.over → best.spent ≤ floor.spent + part → part ≤ line.spent
    → CostsNoMore floor (together (record { excess = 0; over = line.over; spent = 0 }) rest) → CostsNoMore best (together line rest)
no_more_above best floor line rest part excess over spent up h =
    elim h [
      | inl less ↦ inl (omega (arith, less, excess))
      | inr same ↦ elim (cases_eq line.excess 0) [
        | inr some ↦ inl (omega (arith, excess, same.0, some))
        | inl none ↦ inr (
          omega (arith, excess, same.0, none),
          elim same.1 [
            | inl fewer ↦ inl (omega (arith, over, fewer))
            | inr as_many ↦ inr (omega (arith, over, as_many.0), omega (arith, spent, up, as_many.1))
          ],
        )
      ]
    ]

-- The columns that they lack, and the floor, cost as much as the best line.
pub least_enough : (stretches : List Stretch) (columns last_columns : ℕ) (ladder : Option ℕ) (run most start last lacked upto : ℕ) (floor least : Cost) → IsMostClosing stretches most → start < length stretches → last + 1 < length stretches
    → lacked ≤ columns - ((stretch_at stretches start).opening + sum_by joined_width (slice_range stretches start last) + (stretch_at stretches last).width + most)
    → IsFloor stretches columns last_columns ladder run (start + 1) upto floor → last + 1 ≤ upto
    → least.excess ≡ floor.excess → least.over ≡ floor.over → least.spent ≤ floor.spent + lacked * lacked → IsLeastAfter stretches columns last_columns ladder run start (last + 1) least → IsLeast stretches columns last_columns ladder run start least
least_enough stretches columns last_columns ladder run most start last lacked upto floor least closing within inner is below high same_excess same_over enough after =
    least_at_last stretches columns last_columns ladder run start least within (λ end row divides. elim (cases_lt (last + 1) end) [
      | inl later ↦ after end row later divides
      | inr here ↦
          let narrow = no_wider stretches most start last end closing divides.0 here (omega arith) in
          let not_last : (end == length stretches) ≡ false = grind (arith, here, inner) in
          let wanted : wanted_columns stretches columns last_columns end ≡ columns = ap (λ b. if b then last_columns else columns) not_last in
          let square = mul-le lacked lacked (wanted_columns stretches columns last_columns end - line_width stretches start end) (wanted_columns stretches columns last_columns end - line_width stretches start end) (omega (arith, narrow, is, wanted)) (omega (arith, narrow, is, wanted)) in
          let hyphens = hyphens_to stretches run end in
          let line = line_cost stretches columns last_columns ladder hyphens start end in
          let rest = cost_of stretches columns last_columns ladder hyphens end row in
          no_more_above least floor line rest (lacked * lacked) same_excess same_over enough (omega (arith, square)) (below end row (omega (arith, divides.0)) (omega (arith, here, high)) divides.2)
    ])

-- ---- the longest line

-- No line ends after the longest one.
pub least_longest : (stretches : List Stretch) (columns last_columns : ℕ) (ladder : Option ℕ) (choices : Choices) (run start last : ℕ) (choice : Choice)
    → IsMade stretches columns last_columns ladder choices run start choice → choice.end ≡ last + 1 → AreBest stretches columns last_columns ladder choices start run → IsFurthest stretches columns start (last + 1)
    → IsLeastAfter stretches columns last_columns ladder run start last choice.cost
least_longest stretches columns last_columns ladder choices run start last choice made ends best longest end row after divides =
    elim (cases_lt (last + 1) end) [
      | inl later ↦ elim divides.1 [
        | inl fit ↦ absurd (omega (arith, later, longest.furthest end divides.0 (divides_within stretches columns end row divides.2) fit))
        | inr alone ↦ absurd (omega (arith, later, alone, longest.after))
      ]
      | inr here ↦
          let same : choice.end ≡ end = omega (arith, here, after, ends) in
          subst (λ e. CostsNoMore choice.cost (cost_of stretches columns last_columns ladder run start (e ∷ row))) same
          (made_least stretches columns last_columns ladder choices run run start choice row made best (subst (λ e. Divides stretches columns e row) (sym same) divides.2))
    ]

-- ---- floors

-- Nothing costs less than no lines.
pub floor_none : (stretches : List Stretch) (columns last_columns : ℕ) (ladder : Option ℕ) (run first last : ℕ) → IsFloor stretches columns last_columns ladder run first last nothing
floor_none stretches columns last_columns ladder run first last e row low high divides =
    let hyphens = hyphens_to stretches run e in
    nothing_least (together (over_cost ladder hyphens) (cost_of stretches columns last_columns ladder hyphens e row))

-- A floor of some places is one of fewer of them.
pub floor_within : (stretches : List Stretch) (columns last_columns : ℕ) (ladder : Option ℕ) (run first last upto : ℕ) (floor : Cost) → last ≤ upto
    → IsFloor stretches columns last_columns ladder run first upto floor → IsFloor stretches columns last_columns ladder run first last floor
floor_within stretches columns last_columns ladder run first last upto floor fewer below e row low high divides = below e row low (omega (arith, high, fewer)) divides

-- A cost that is no more than two floors is one of the places of both.
pub floor_joined : (stretches : List Stretch) (columns last_columns : ℕ) (ladder : Option ℕ) (run first middle last : ℕ) (one other new : Cost) → IsFloor stretches columns last_columns ladder run first middle one
    → IsFloor stretches columns last_columns ladder run (middle + 1) last other → CostsNoMore new one → CostsNoMore new other → IsFloor stretches columns last_columns ladder run first last new
floor_joined stretches columns last_columns ladder run first middle last one other new below above no_more no_more_either e row low high divides =
    let hyphens = hyphens_to stretches run e in
    let all = together (over_cost ladder hyphens) (cost_of stretches columns last_columns ladder hyphens e row) in
    elim (cases_lt middle e) [
      | inl later ↦ no_more_along new other all no_more_either (above e row (omega (arith, later)) high divides)
      | inr here ↦ no_more_along new one all no_more (below e row low (omega (arith, here)) divides)
    ]

-- The cost of an end after a run, with the best lines after it, is a floor of that place.
pub floor_here : (stretches : List Stretch) (columns last_columns : ℕ) (ladder : Option ℕ) (choices : Choices) (run end : ℕ) (floor : Cost) → end ≤ length stretches
    → AreBest stretches columns last_columns ladder choices end (runs ladder)
    → floor ≡ together (over_cost ladder (hyphens_to stretches run end)) (choice_at choices (run_of ladder (hyphens_to stretches run end)) end).cost
    → IsFloor stretches columns last_columns ladder run end end floor
floor_here stretches columns last_columns ladder choices run end floor within best is e row low high divides =
    let same : end ≡ e = omega (arith, low, high) in
    let hyphens = hyphens_to stretches run end in
    let later = run_of ladder hyphens in
    let few = run_within ladder hyphens in
    let choice = choice_at choices later end in
    let here : Divides stretches columns end row → CostsNoMore floor (together (over_cost ladder hyphens) (cost_of stretches columns last_columns ladder hyphens end row)) = λ d.
    let own : CostsNoMore choice.cost (cost_of stretches columns last_columns ladder hyphens end row) = subst (λ c. CostsNoMore choice.cost c) (run_same stretches columns last_columns ladder hyphens end row) (best.least later end (few, inr (refl, few)) within row d) in
    subst (λ f. CostsNoMore f (together (over_cost ladder hyphens) (cost_of stretches columns last_columns ladder hyphens end row))) (sym is)
    (no_more_together (over_cost ladder hyphens) choice.cost (cost_of stretches columns last_columns ladder hyphens end row) own) in
    subst (λ p. Divides stretches columns p row → CostsNoMore floor (together (over_cost ladder (hyphens_to stretches run p)) (cost_of stretches columns last_columns ladder (hyphens_to stretches run p) p row))) same here divides

-- A floor that is read.
pub floor_read : (floors : List Cost) (run : ℕ) (floor : Cost) → run - 1 < length floors → floor ≡ slice_index_or floors (run - 1) floor → floor_after floors run ≡ floor
floor_read floors run floor inside is = get_or_default floors (run - 1) nothing floor inside ∙ sym is

-- The facts that a test tells.
pub told_true : (A B : Type 0) (b : Bool) → MatchBool b A B → b ≡ true → A
told_true A B b told is = subst (λ v. MatchBool v A B) is told

pub told_false : (A B : Type 0) (b : Bool) → MatchBool b A B → b ≡ false → B
told_false A B b told is = subst (λ v. MatchBool v A B) is told
