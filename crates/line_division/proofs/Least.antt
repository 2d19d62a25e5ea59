-- The line that is best to begin at a place, and the best ones after it.
use Rattle.std.specs.Bool.{MatchBool}
use Rattle.std.proofs.Common.{◌≡◌, ◌≢◌, ℕ, ◌+◌, ◌-◌, ◌<◌, ◌≤◌, ◌⊎◌, nat_lt, Bool, true, false, Option, Some, None, List, [], ◌∷◌, ◌++◌, length, drop, append_assoc, append-nil, slice_index_or, sym, ap, subst, refl, ◌∙◌, arith, inl, inr}
use Rattle.std.proofs.lemmas.Bool.{cases_lt, cases_eq, cases_Bool, cond-true, cond-false}
use Rattle.line_division.specs.declared.stretch.Stretch.{Stretch}
use Rattle.line_division.specs.declared.cost.Cost.{Cost}
use Rattle.line_division.specs.declared.table.Choice.{Choice}
use Rattle.line_division.specs.declared.table.Kept.{Kept}
use Rattle.line_division.specs.declared.table.Choices.{Choices}
use Rattle.line_division.specs.Cost.{nothing, together, CostsNoMore}
use Rattle.line_division.specs.Lines.{stretch_at, line_width, raggedness, hyphens_to, line_over, line_cost}
use Rattle.line_division.specs.Division.{Divides, EachFits, CostsLeast, FitsIfAny, KeepsLadderIfAny, cost_of}
use Rattle.line_division.specs.Private.Best.{runs, run_of, IsLeast, IsSmall, IsMade, IsKnown, AreBest}
use Rattle.line_division.specs.Private.Plain.{IsPlain}
use Rattle.line_division.specs.Private.Table.{first_at, kept_for, HasRun, row_at, kept_at, choice_at, IsKept}
use Rattle.line_division.proofs.Runs.{runs_some, run_within, run_same, keeps_none_over, none_over_keeps, over_least}
use Rattle.line_division.proofs.Rows.{kept_first, kept_alike}

pub no_more_here : (one : Cost) → CostsNoMore one one
no_more_here one = inr (refl, inr (refl, omega arith))

pub no_more_along : (one two three : Cost) → CostsNoMore one two → CostsNoMore two three → CostsNoMore one three
no_more_along one two three h k =
    elim h [
      | inl less ↦ elim k [ inl then ↦ inl (omega (arith, less, then)) | inr then ↦ inl (omega (arith, less, then.0)) ]
      | inr same ↦ elim k [
        | inl then ↦ inl (omega (arith, same.0, then))
        | inr then ↦ inr (
          omega (arith, same.0, then.0),
          elim same.1 [
            | inl fewer ↦ elim then.1 [ inl more ↦ inl (omega (arith, fewer, more)) | inr more ↦ inl (omega (arith, fewer, more.0)) ]
            | inr as_many ↦ elim then.1 [ inl more ↦ inl (omega (arith, as_many.0, more)) | inr more ↦ inr (omega (arith, as_many.0, more.0), omega (arith, as_many.1, more.1)) ]
          ],
        )
      ]
    ]

pub no_more_together : (first one other : Cost) → CostsNoMore one other → CostsNoMore (together first one) (together first other)
no_more_together first one other h =
    elim h [
      | inl less ↦ inl (omega (arith, less))
      | inr same ↦ inr (omega (arith, same.0), elim same.1 [ inl fewer ↦ inl (omega (arith, fewer)) | inr as_many ↦ inr (omega (arith, as_many.0), omega (arith, as_many.1)) ])
    ]

-- Each run is known at a place after one that is known.
pub known_after : (ladder : Option ℕ) (low known run place : ℕ) → low < place → run < runs ladder → IsKnown ladder low known run place
known_after ladder low known run place after within = (within, inl after)

-- Each run is known at each place, where all are known at the first place.
pub known_all : (ladder : Option ℕ) (run place : ℕ) → run < runs ladder → IsKnown ladder 0 (runs ladder) run place
known_all ladder run place within = (within, elim (cases_eq 0 place) [ inl first ↦ inr (first, within) | inr later ↦ inl (omega (arith, later)) ])

-- A line that is followed by the best ones costs no more than with any others.
pub made_least : (stretches : List Stretch) (columns last_columns : ℕ) (ladder : Option ℕ) (choices : Choices) (known run start : ℕ) (choice : Choice) (row : List ℕ)
    → IsMade stretches columns last_columns ladder choices run start choice → AreBest stretches columns last_columns ladder choices start known → Divides stretches columns choice.end row
    → CostsNoMore choice.cost (cost_of stretches columns last_columns ladder run start (choice.end ∷ row))
made_least stretches columns last_columns ladder choices known run start choice row made best divides =
    let hyphens = hyphens_to stretches run choice.end in
    let later = run_of ladder hyphens in
    let line = line_cost stretches columns last_columns ladder hyphens start choice.end in
    let then = best.least later choice.end (known_after ladder start known later choice.end made.after (run_within ladder hyphens)) made.within row divides in
    let same = run_same stretches columns last_columns ladder hyphens choice.end row in
    let then_exact : CostsNoMore (choice_at choices later choice.end).cost (cost_of stretches columns last_columns ladder hyphens choice.end row) =
    subst (λ c. CostsNoMore (choice_at choices later choice.end).cost c) same then in
    subst (λ c. CostsNoMore c (cost_of stretches columns last_columns ladder run start (choice.end ∷ row))) (sym made.sum)
    (no_more_together line (choice_at choices later choice.end).cost (cost_of stretches columns last_columns ladder hyphens choice.end row) then_exact)

-- A cost that is no dearer up to the last end is least.
pub least_at_last : (stretches : List Stretch) (columns last_columns : ℕ) (ladder : Option ℕ) (run start : ℕ) (least : Cost) → start < length stretches → ((end : ℕ) (row : List ℕ) → Divides stretches columns start (end ∷ row) → CostsNoMore least (cost_of stretches columns last_columns ladder run start (end ∷ row))) → IsLeast stretches columns last_columns ladder run start least
least_at_last stretches columns last_columns ladder run start least lt up [] divides = absurd (omega (arith, divides))
least_at_last stretches columns last_columns ladder run start least lt up (end ∷ row) divides = up end row divides

pub divides_within : (stretches : List Stretch) (columns start : ℕ) (row : List ℕ) → Divides stretches columns start row → start ≤ length stretches
divides_within stretches columns start [] divides = omega (arith, divides)
divides_within stretches columns start (end ∷ row) divides = let rest = divides_within stretches columns end row divides.2 in omega (arith, rest, divides.0)

-- The results of a comparison.
pub told_less : (one other : Cost) (b : Bool) → MatchBool b (CostsNoMore one other) (CostsNoMore other one) → b ≡ true → CostsNoMore one other
told_less one other b told is = subst (λ v. MatchBool v (CostsNoMore one other) (CostsNoMore other one)) is told

pub told_no_less : (one other : Cost) (b : Bool) → MatchBool b (CostsNoMore one other) (CostsNoMore other one) → b ≡ false → CostsNoMore other one
told_no_less one other b told is = subst (λ v. MatchBool v (CostsNoMore one other) (CostsNoMore other one)) is told

-- ---- all places

pub nothing_least : (one : Cost) → CostsNoMore nothing one
nothing_least one =
    elim (cases_eq one.excess 0) [
      | inl none ↦ inr (omega (arith, none), elim (cases_eq one.over 0) [ inl fewest ↦ inr (omega (arith, fewest), omega arith) | inr some ↦ inl (omega (arith, some)) ])
      | inr some ↦ inl (omega (arith, some))
    ]

-- Where no line is left to begin.
pub best_at_end : (stretches : List Stretch) (columns last_columns : ℕ) (ladder : Option ℕ) (choices : Choices) (known to : ℕ) → length choices.firsts.items ≡ length stretches + 1
    → (length choices.faults.items ≡ length stretches + 1) ⊎ IsPlain stretches columns ladder
    → (1 < runs ladder → length choices.begins.items ≡ length stretches + 1)
    → first_at choices (length stretches) ≡ record { cost = nothing; end = to; last_run = runs ladder - 1 }
    → AreBest stretches columns last_columns ladder choices (length stretches) known
best_at_end stretches columns last_columns ladder choices known to many faulty begun none =
    let final : Kept = record { cost = nothing; end = to; last_run = runs ladder - 1 } in
    let same : (r e : ℕ) → IsKnown ladder (length stretches) known r e → e ≤ length stretches → length stretches ≡ e = λ r e is high. elim is.1 [ inl after ↦ absurd (omega (arith, after, high)) | inr here ↦ here.0 ] in
    let rest = drop (slice_index_or choices.begins.items (length stretches) 0) choices.others.items in
    let read : (r : ℕ) → r < runs ladder → kept_at choices r (length stretches) ≡ final = λ r few.
    ap (λ k. kept_for (k ∷ rest) r) none ∙ kept_first final rest r (omega (arith, few)) in
    record {
      many = many;
      faulty = faulty;
      begun = begun;
      kept = λ r e is high. subst (λ p. HasRun (row_at choices p) r) (same r e is high) (inl (omega (arith, is.0, ap (λ k. k.last_run) none)));
      short = λ r e is high. subst (λ p. (kept_at choices r p).last_run < runs ladder) (same r e is high) (subst (λ k. k.last_run < runs ladder) (sym (read r is.0)) (omega (arith, runs_some ladder)));
      least = λ r e is high row divides. subst (λ p. CostsNoMore (kept_at choices r p).cost (cost_of stretches columns last_columns ladder r e row)) (same r e is high)
          (subst (λ k. CostsNoMore k.cost (cost_of stretches columns last_columns ladder r e row)) (sym (read r is.0)) (nothing_least (cost_of stretches columns last_columns ladder r e row)));
      small = λ r e is high. subst (λ p. IsSmall (kept_at choices r p).cost (length stretches - e)) (same r e is high) (subst (λ k. IsSmall k.cost (length stretches - e)) (sym (read r is.0)) (omega arith, omega arith, omega arith));
      made = λ r e is high. absurd (omega (arith, high, same r e is (omega (arith, high))));
      last = λ r few. ap (λ k. k.cost) (read r few);
    }

-- Lines that are the best for all runs at a place are so after the place before it.
pub best_earlier : (stretches : List Stretch) (columns last_columns : ℕ) (ladder : Option ℕ) (choices : Choices) (low : ℕ) → AreBest stretches columns last_columns ladder choices (low + 1) (runs ladder)
    → AreBest stretches columns last_columns ladder choices low 0
best_earlier stretches columns last_columns ladder choices low best =
    let known : (r e : ℕ) → IsKnown ladder low 0 r e → IsKnown ladder (low + 1) (runs ladder) r e = λ r e k. (
      k.0,
      elim k.1 [
        | inl after ↦ elim (cases_eq (low + 1) e) [ inl same ↦ inr (same, k.0) | inr other ↦ inl (omega (arith, after, other)) ]
        | inr here ↦ absurd (omega (arith, here.1))
      ],
    ) in
    record {
      many = best.many;
      faulty = best.faulty;
      begun = best.begun;
      kept = λ r e k. best.kept r e (known r e k);
      short = λ r e k. best.short r e (known r e k);
      least = λ r e k. best.least r e (known r e k);
      small = λ r e k. best.small r e (known r e k);
      made = λ r e k. best.made r e (known r e k);
      last = best.last;
    }

-- ---- hyphens before a line

over_more : (ladder : Option ℕ) (fewer more : ℕ) → fewer ≤ more → line_over ladder fewer ≤ line_over ladder more
over_more None fewer more le = omega arith
over_more (Some most) fewer more le =
    elim (cases_lt most fewer) [
      | inl over ↦
          let told : nat_lt most more ≡ true = grind (arith, over, le) in
          let first : nat_lt most fewer ≡ true = grind (arith, over) in
          let one : line_over (Some most) fewer ≡ 1 = cond-true _ _ _ first in
          let other : line_over (Some most) more ≡ 1 = cond-true _ _ _ told in
          omega (arith, one, other)
      | inr within ↦
          let told : nat_lt most fewer ≡ false = grind (arith, within) in
          let none : line_over (Some most) fewer ≡ 0 = cond-false _ _ _ told in
          omega (arith, none)
    ]

hyphens_more : (stretches : List Stretch) (fewer more end : ℕ) → fewer ≤ more → hyphens_to stretches fewer end ≤ hyphens_to stretches more end
hyphens_more stretches fewer more end le =
    elim (cases_Bool (stretch_at stretches (end - 1)).hyphenated) [
      | inl so ↦
          let first : hyphens_to stretches fewer end ≡ fewer + 1 = cond-true _ _ _ so in
          let second : hyphens_to stretches more end ≡ more + 1 = cond-true _ _ _ so in
          omega (arith, first, second, le)
      | inr not_so ↦
          let first : hyphens_to stretches fewer end ≡ 0 = cond-false _ _ _ not_so in
          omega (arith, first)
    ]

-- Where no hyphen is at a line's end after no hyphens, none is after any.
hyphens_none : (stretches : List Stretch) (run end : ℕ) → hyphens_to stretches 0 end ≡ 0 → hyphens_to stretches run end ≡ 0
hyphens_none stretches run end none =
    elim (cases_Bool (stretch_at stretches (end - 1)).hyphenated) [
      | inl so ↦ let first : hyphens_to stretches 0 end ≡ 1 = cond-true _ _ _ so in absurd (omega (arith, first, none))
      | inr not_so ↦ cond-false _ _ _ not_so
    ]

no_more_both : (first second one other : Cost) → first.excess ≡ second.excess → first.over ≤ second.over → first.spent ≡ second.spent → CostsNoMore one other → CostsNoMore (together first one) (together second other)
no_more_both first second one other excess over spent h =
    elim h [
      | inl less ↦ inl (omega (arith, excess, less))
      | inr same ↦ inr (
        omega (arith, excess, same.0),
        elim same.1 [
          | inl fewer ↦ inl (omega (arith, over, fewer))
          | inr as_many ↦ elim (cases_eq first.over second.over) [
            | inl equal ↦ inr (omega (arith, equal, as_many.0), omega (arith, spent, as_many.1))
            | inr unequal ↦ inl (omega (arith, over, unequal, as_many.0))
          ]
        ],
      )
    ]

-- A row of ends costs no less after more hyphens in a row.
pub costs_more : (stretches : List Stretch) (columns last_columns : ℕ) (ladder : Option ℕ) (fewer more start : ℕ) (row : List ℕ) → fewer ≤ more
    → CostsNoMore (cost_of stretches columns last_columns ladder fewer start row) (cost_of stretches columns last_columns ladder more start row)
costs_more stretches columns last_columns ladder fewer more start [] le = no_more_here nothing
costs_more stretches columns last_columns ladder fewer more start (end ∷ row) le =
    let one = hyphens_to stretches fewer end in
    let other = hyphens_to stretches more end in
    let up = hyphens_more stretches fewer more end le in
    no_more_both (line_cost stretches columns last_columns ladder one start end) (line_cost stretches columns last_columns ladder other start end)
    (cost_of stretches columns last_columns ladder one end row) (cost_of stretches columns last_columns ladder other end row)
    refl (over_more ladder one other up) refl (costs_more stretches columns last_columns ladder one other end row up)

-- A cost that is least after fewer hyphens in a row is so after more.
pub least_more : (stretches : List Stretch) (columns last_columns : ℕ) (ladder : Option ℕ) (fewer more start : ℕ) (least : Cost) → fewer ≤ more
    → IsLeast stretches columns last_columns ladder fewer start least → IsLeast stretches columns last_columns ladder more start least
least_more stretches columns last_columns ladder fewer more start least le is row divides =
    no_more_along least (cost_of stretches columns last_columns ladder fewer start row) (cost_of stretches columns last_columns ladder more start row) (is row divides)
    (costs_more stretches columns last_columns ladder fewer more start row le)

-- A line that ends in no hyphen is made alike after all runs.
pub made_alike : (stretches : List Stretch) (columns last_columns : ℕ) (ladder : Option ℕ) (choices : Choices) (run other start : ℕ) (choice : Choice) → hyphens_to stretches 0 choice.end ≡ 0
    → IsMade stretches columns last_columns ladder choices run start choice → IsMade stretches columns last_columns ladder choices other start choice
made_alike stretches columns last_columns ladder choices run other start choice none made =
    let same : hyphens_to stretches run choice.end ≡ hyphens_to stretches other choice.end = hyphens_none stretches run choice.end none ∙ sym (hyphens_none stretches other choice.end none) in
    record {
      after = made.after;
      within = made.within;
      stands = made.stands;
      sum = subst (λ h. choice.cost ≡ together (line_cost stretches columns last_columns ladder h start choice.end) (choice_at choices (run_of ladder h) choice.end).cost) same made.sum;
    }

-- Where a hyphen is at a line's end after no hyphens, one more than before is after any.
hyphens_some : (stretches : List Stretch) (run end : ℕ) → hyphens_to stretches 0 end ≢ 0 → hyphens_to stretches run end ≡ run + 1
hyphens_some stretches run end some =
    elim (cases_Bool (stretch_at stretches (end - 1)).hyphenated) [
      | inl so ↦ cond-true _ _ _ so
      | inr not_so ↦ absurd (some (cond-false _ _ _ not_so))
    ]

none_over : (ladder : Option ℕ) (hyphens : ℕ) → hyphens < runs ladder → line_over ladder hyphens ≡ 0
none_over None hyphens few = refl
none_over (Some most) hyphens few =
    let told : nat_lt most hyphens ≡ false = grind (arith, few) in
    cond-false _ _ _ told

run_few : (ladder : Option ℕ) (hyphens : ℕ) → hyphens < runs ladder → run_of ladder hyphens ≡ hyphens
run_few ladder hyphens few =
    let told : nat_lt hyphens (runs ladder) ≡ true = grind (arith, few) in
    cond-true _ _ _ told

-- A line that ends in a hyphen is made alike after longer runs, as long as the line after it is kept for them.
pub made_longer : (stretches : List Stretch) (columns last_columns : ℕ) (ladder : Option ℕ) (choices : Choices) (run other start : ℕ) (choice : Choice) → hyphens_to stretches 0 choice.end ≢ 0
    → (kept_at choices (run + 1) choice.end).last_run < runs ladder → run ≤ other → other + 1 ≤ (kept_at choices (run + 1) choice.end).last_run
    → IsMade stretches columns last_columns ladder choices run start choice → IsMade stretches columns last_columns ladder choices other start choice
made_longer stretches columns last_columns ladder choices run other start choice some short le upto made =
    let line : ℕ → Cost = λ over. record { excess = line_width stretches start choice.end - columns; over = over; spent = raggedness stretches columns last_columns start choice.end + (stretch_at stretches (choice.end - 1)).price } in
    let first = hyphens_some stretches run choice.end some in
    let second = hyphens_some stretches other choice.end some in
    let kept : kept_at choices (other + 1) choice.end ≡ kept_at choices (run + 1) choice.end = kept_alike (row_at choices choice.end) (run + 1) (other + 1) (omega (arith, le)) upto in
    let over : line_over ladder (run + 1) ≡ line_over ladder (other + 1) = none_over ladder (run + 1) (omega (arith, short, upto, le)) ∙ sym (none_over ladder (other + 1) (omega (arith, short, upto))) in
    let one : choice.cost ≡ together (line_cost stretches columns last_columns ladder (run + 1) start choice.end) (choice_at choices (run_of ladder (run + 1)) choice.end).cost =
    subst (λ h. choice.cost ≡ together (line_cost stretches columns last_columns ladder h start choice.end) (choice_at choices (run_of ladder h) choice.end).cost) first made.sum in
    let two : choice.cost ≡ together (line (line_over ladder (run + 1))) (kept_at choices (run + 1) choice.end).cost =
    subst (λ r. choice.cost ≡ together (line (line_over ladder (run + 1))) (kept_at choices r choice.end).cost) (run_few ladder (run + 1) (omega (arith, short, upto, le))) one in
    let three : choice.cost ≡ together (line (line_over ladder (other + 1))) (kept_at choices (other + 1) choice.end).cost =
    subst (λ o. choice.cost ≡ together (line o) (kept_at choices (other + 1) choice.end).cost) over
    (subst (λ k. choice.cost ≡ together (line (line_over ladder (run + 1))) k.cost) (sym kept) two) in
    let four : choice.cost ≡ together (line (line_over ladder (other + 1))) (kept_at choices (run_of ladder (other + 1)) choice.end).cost =
    subst (λ r. choice.cost ≡ together (line (line_over ladder (other + 1))) (kept_at choices r choice.end).cost) (sym (run_few ladder (other + 1) (omega (arith, short, upto)))) three in
    record {
      after = made.after;
      within = made.within;
      stands = made.stands;
      sum = subst (λ h. choice.cost ≡ together (line_cost stretches columns last_columns ladder h start choice.end) (choice_at choices (run_of ladder h) choice.end).cost) (sym second) four;
    }

-- Lines that are the best from a place on are so from a later one.
pub best_later : (stretches : List Stretch) (columns last_columns : ℕ) (ladder : Option ℕ) (choices : Choices) (low later : ℕ) → low ≤ later → AreBest stretches columns last_columns ladder choices low (runs ladder)
    → AreBest stretches columns last_columns ladder choices later (runs ladder)
best_later stretches columns last_columns ladder choices low later le best =
    let known : (r e : ℕ) → IsKnown ladder later (runs ladder) r e → IsKnown ladder low (runs ladder) r e = λ r e k. (
      k.0,
      elim (cases_eq low e) [
        | inl same ↦ inr (same, k.0)
        | inr other ↦ inl (elim k.1 [ inl after ↦ omega (arith, after, le) | inr here ↦ omega (arith, here.0, le, other) ])
      ],
    ) in
    record {
      many = best.many;
      faulty = best.faulty;
      begun = best.begun;
      kept = λ r e k. best.kept r e (known r e k);
      short = λ r e k. best.short r e (known r e k);
      least = λ r e k. best.least r e (known r e k);
      small = λ r e k. best.small r e (known r e k);
      made = λ r e k. best.made r e (known r e k);
      last = best.last;
    }

-- Lines are read for each run that is known.
pub kept_known : (stretches : List Stretch) (columns last_columns : ℕ) (ladder : Option ℕ) (choices : Choices) (low known run place : ℕ) → AreBest stretches columns last_columns ladder choices low known
    → IsKnown ladder low known run place → place ≤ length stretches → IsKept choices run place
kept_known stretches columns last_columns ladder choices low known run place best is within = (
  omega (arith, best.many, within),
  best.kept run place is within,
  λ some. omega (arith, best.begun (omega (arith, some, is.0)), within),
)

-- A line is made alike where the lines after it are kept alike.
still_made : (stretches : List Stretch) (columns last_columns : ℕ) (ladder : Option ℕ) (choices new : Choices) (known start run place : ℕ) (choice : Choice)
    → ((r e : ℕ) → IsKnown ladder start known r e → e ≤ length stretches → kept_at new r e ≡ kept_at choices r e) → start ≤ place
    → IsMade stretches columns last_columns ladder choices run place choice → IsMade stretches columns last_columns ladder new run place choice
still_made stretches columns last_columns ladder choices new known start run place choice there low old =
    let hyphens = hyphens_to stretches run choice.end in
    let later = run_of ladder hyphens in
    let same = there later choice.end (known_after ladder start known later choice.end (omega (arith, low, old.after)) (run_within ladder hyphens)) old.within in
    record {
      after = old.after;
      within = old.within;
      stands = old.stands;
      sum = subst (λ k. choice.cost ≡ together (line_cost stretches columns last_columns ladder hyphens place choice.end) k.cost) (sym same) old.sum;
    }

-- Some more runs at a place have their best line.
pub best_before : (stretches : List Stretch) (columns last_columns : ℕ) (ladder : Option ℕ) (choices new : Choices) (known upto start : ℕ) (choice : Choice) → start < length stretches → known ≤ upto → upto < runs ladder
    → AreBest stretches columns last_columns ladder choices start known
    → length new.firsts.items ≡ length choices.firsts.items → length new.faults.items ≡ length choices.faults.items → length new.begins.items ≡ length choices.begins.items
    → ((r e : ℕ) → IsKnown ladder start known r e → e ≤ length stretches → kept_at new r e ≡ kept_at choices r e)
    → ((r e : ℕ) → IsKnown ladder start known r e → e ≤ length stretches → HasRun (row_at new e) r)
    → ((r : ℕ) → known ≤ r → r ≤ upto → kept_at new r start ≡ record { cost = choice.cost; end = choice.end; last_run = upto })
    → ((r : ℕ) → known ≤ r → r ≤ upto → HasRun (row_at new start) r)
    → IsLeast stretches columns last_columns ladder known start choice.cost
    → ((r : ℕ) → known ≤ r → r ≤ upto → IsMade stretches columns last_columns ladder choices r start choice) → IsSmall choice.cost (length stretches - start)
    → AreBest stretches columns last_columns ladder new start (upto + 1)
best_before stretches columns last_columns ladder choices new known upto start choice lt order within best many faults begun there there_has here here_has least made small =
    let cases : (r e : ℕ) → IsKnown ladder start (upto + 1) r e → ((start ≡ e) × ((known ≤ r) × (r ≤ upto))) ⊎ IsKnown ladder start known r e = λ r e k. elim k.1 [
      | inl after ↦ inr (k.0, inl after)
      | inr same ↦ elim (cases_lt r known) [ inl less ↦ inr (k.0, inr (same.0, less)) | inr more ↦ inl (same.0, (more, omega (arith, same.1))) ]
    ] in
    record {
      many = many ∙ best.many;
      faulty = elim best.faulty [ inl long ↦ inl (faults ∙ long) | inr plain ↦ inr plain ];
      begun = λ some. begun ∙ best.begun some;
      kept = λ r e k high. elim (cases r e k) [
        | inl same ↦ subst (λ p. HasRun (row_at new p) r) same.0 (here_has r same.1.0 same.1.1)
        | inr other ↦ there_has r e other high
      ];
      short = λ r e k high. elim (cases r e k) [
        | inl same ↦ subst (λ p. (kept_at new r p).last_run < runs ladder) same.0 (subst (λ q. q.last_run < runs ladder) (sym (here r same.1.0 same.1.1)) within)
        | inr other ↦ subst (λ q. q.last_run < runs ladder) (sym (there r e other high)) (best.short r e other high)
      ];
      least = λ r e k high. elim (cases r e k) [
        | inl same ↦ subst (λ p. IsLeast stretches columns last_columns ladder r p (kept_at new r p).cost) same.0
            (subst (λ q. IsLeast stretches columns last_columns ladder r start q.cost) (sym (here r same.1.0 same.1.1))
            (least_more stretches columns last_columns ladder known r start choice.cost same.1.0 least))
        | inr other ↦ subst (λ q. IsLeast stretches columns last_columns ladder r e q.cost) (sym (there r e other high)) (best.least r e other high)
      ];
      small = λ r e k high. elim (cases r e k) [
        | inl same ↦ subst (λ p. IsSmall (kept_at new r p).cost (length stretches - p)) same.0 (subst (λ q. IsSmall q.cost (length stretches - start)) (sym (here r same.1.0 same.1.1)) small)
        | inr other ↦ subst (λ q. IsSmall q.cost (length stretches - e)) (sym (there r e other high)) (best.small r e other high)
      ];
      made = λ r e k high. elim (cases r e k) [
        | inl same ↦ subst (λ p. IsMade stretches columns last_columns ladder new r p (choice_at new r p)) same.0
            (subst (λ q. IsMade stretches columns last_columns ladder new r start (record { cost = q.cost; end = q.end })) (sym (here r same.1.0 same.1.1))
            (still_made stretches columns last_columns ladder choices new known start r start choice there (omega arith) (made r same.1.0 same.1.1)))
        | inr other ↦ subst (λ q. IsMade stretches columns last_columns ladder new r e (record { cost = q.cost; end = q.end })) (sym (there r e other (omega (arith, high))))
            (still_made stretches columns last_columns ladder choices new known start r e (choice_at choices r e) there (elim other.1 [ inl after ↦ omega (arith, after) | inr same ↦ omega (arith, same.0) ]) (best.made r e other high))
      ];
      last = λ r few. subst (λ q. q.cost ≡ nothing) (sym (there r (length stretches) (few, inl lt) (omega arith))) (best.last r few);
    }

-- ---- the row of the best lines

-- Followed by any ends that cost what is said from a place on, these cost what is said from the beginning.
abbrev pub GoesOn : List Stretch → ℕ → ℕ → Option ℕ → Choices → ℕ → ℕ → List ℕ → Type 0
GoesOn stretches columns last_columns ladder choices run place ends =
    (rest : List ℕ) → Divides stretches columns place rest → cost_of stretches columns last_columns ladder run place rest ≡ (choice_at choices run place).cost
    → Divides stretches columns 0 (ends ++ rest) × (cost_of stretches columns last_columns ladder 0 0 (ends ++ rest) ≡ (choice_at choices 0 0).cost)

pub goes_further : (stretches : List Stretch) (columns last_columns : ℕ) (ladder : Option ℕ) (choices : Choices) (run place : ℕ) (ends : List ℕ) (choice : Choice) → GoesOn stretches columns last_columns ladder choices run place ends
    → choice_at choices run place ≡ choice → IsMade stretches columns last_columns ladder choices run place choice
    → GoesOn stretches columns last_columns ladder choices (run_of ladder (hyphens_to stretches run choice.end)) choice.end (ends ++ choice.end ∷ [])
goes_further stretches columns last_columns ladder choices run place ends choice before read made rest divides same =
    let end = choice.end in
    let hyphens = hyphens_to stretches run end in
    let line = line_cost stretches columns last_columns ladder hyphens place end in
    let exact = sym (run_same stretches columns last_columns ladder hyphens end rest) ∙ same in
    let all = before (end ∷ rest) (made.after, made.stands, divides) (ap (together line) exact ∙ sym made.sum ∙ ap (λ c. c.cost) (sym read)) in
    subst (λ row. Divides stretches columns 0 row × (cost_of stretches columns last_columns ladder 0 0 row ≡ (choice_at choices 0 0).cost)) (sym (append_assoc ends (end ∷ []) rest)) all

pub goes_to_end : (stretches : List Stretch) (columns last_columns : ℕ) (ladder : Option ℕ) (choices : Choices) (run place : ℕ) (ends : List ℕ) → GoesOn stretches columns last_columns ladder choices run place ends
    → AreBest stretches columns last_columns ladder choices 0 (runs ladder) → run < runs ladder → length stretches ≡ place
    → Divides stretches columns 0 ends × (cost_of stretches columns last_columns ladder 0 0 ends ≡ (choice_at choices 0 0).cost)
goes_to_end stretches columns last_columns ladder choices run place ends before best few same =
    let all = before [] (sym same) (sym (ap (λ p. (choice_at choices run p).cost) (sym same) ∙ best.last run few)) in
    subst (λ row. Divides stretches columns 0 row × (cost_of stretches columns last_columns ladder 0 0 row ≡ (choice_at choices 0 0).cost)) (append-nil ends) all

-- ---- lines that fit have no excess

pub fits_no_excess : (stretches : List Stretch) (columns last_columns : ℕ) (ladder : Option ℕ) (run start : ℕ) (row : List ℕ) → EachFits stretches columns start row → (cost_of stretches columns last_columns ladder run start row).excess ≡ 0
fits_no_excess stretches columns last_columns ladder run start [] fit = refl
fits_no_excess stretches columns last_columns ladder run start (end ∷ row) fit = let rest = fits_no_excess stretches columns last_columns ladder (hyphens_to stretches run end) end row fit.1 in omega (arith, rest, fit.0)

pub no_excess_fits : (stretches : List Stretch) (columns last_columns : ℕ) (ladder : Option ℕ) (run start : ℕ) (row : List ℕ) → (cost_of stretches columns last_columns ladder run start row).excess ≡ 0 → EachFits stretches columns start row
no_excess_fits stretches columns last_columns ladder run start [] none = tt
no_excess_fits stretches columns last_columns ladder run start (end ∷ row) none = (omega (arith, none), no_excess_fits stretches columns last_columns ladder (hyphens_to stretches run end) end row (omega (arith, none)))

pub excess_least : (one other : Cost) → CostsNoMore one other → other.excess ≡ 0 → one.excess ≡ 0
excess_least one other h none = elim h [ inl less ↦ absurd (omega (arith, less, none)) | inr same ↦ omega (arith, same.0, none) ]

-- ---- what lines that cost the least keep to

pub ends_least : (stretches : List Stretch) (columns last_columns : ℕ) (ladder : Option ℕ) (choices : Choices) (run place : ℕ) (ends : List ℕ) → GoesOn stretches columns last_columns ladder choices run place ends
    → AreBest stretches columns last_columns ladder choices 0 (runs ladder) → run < runs ladder → length stretches ≡ place
    → Divides stretches columns 0 ends × CostsLeast stretches columns last_columns ladder ends
ends_least stretches columns last_columns ladder choices run place ends before best few same =
    let all = goes_to_end stretches columns last_columns ladder choices run place ends before best few same in (
      all.0,
      λ row divides. subst (λ k. CostsNoMore k (cost_of stretches columns last_columns ladder 0 0 row)) (sym all.1)
          (best.least 0 0 (known_all ladder 0 0 (runs_some ladder)) (omega arith) row divides),
    )

pub least_fits : (stretches : List Stretch) (columns last_columns : ℕ) (ladder : Option ℕ) (ends : List ℕ) → CostsLeast stretches columns last_columns ladder ends → FitsIfAny stretches columns ends
least_fits stretches columns last_columns ladder ends least row divides fit =
    no_excess_fits stretches columns last_columns ladder 0 0 ends
    (excess_least (cost_of stretches columns last_columns ladder 0 0 ends) (cost_of stretches columns last_columns ladder 0 0 row) (least row divides)
    (fits_no_excess stretches columns last_columns ladder 0 0 row fit))

pub least_keeps : (stretches : List Stretch) (columns last_columns : ℕ) (ladder : Option ℕ) (ends : List ℕ) → CostsLeast stretches columns last_columns ladder ends → KeepsLadderIfAny stretches columns ladder ends
least_keeps stretches columns last_columns ladder ends least row divides fit keeps =
    none_over_keeps stretches columns last_columns ladder 0 0 ends
    (over_least (cost_of stretches columns last_columns ladder 0 0 ends) (cost_of stretches columns last_columns ladder 0 0 row) (least row divides)
    (fits_no_excess stretches columns last_columns ladder 0 0 row fit) (keeps_none_over stretches columns last_columns ladder 0 0 row keeps))
