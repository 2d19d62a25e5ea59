use Rattle.std.proofs.Common.{◌≡◌, ℕ, ◌+◌, ◌-◌, ◌<◌, ◌≤◌, ◌⊎◌, length, subst, arith, inl, inr}
use Rattle.std.specs.List.{sum_by, slice_range}
use Rattle.line_division.specs.Lines.{stretch_at, joined_width, line_width}
use Rattle.line_division.specs.declared.cost.Cost.{Cost}
use Rattle.line_division.specs.declared.problem.Begin.{Begin}
use Rattle.line_division.proofs.Least.{no_more_here, told_less, told_no_less}
use Rattle.line_division.proofs.Reaching.{IsLeastAfter, joined_back, least_longest, least_tried, least_wide, least_all, least_enough, told_true, told_false}
use Rattle.line_division.proofs.Plain.{plain_stands}
use Rattle.line_division.proofs.Widths.{width_to}
use Rattle.line_division.proofs.even.best_line.Goals as goal

-- One step of the loop, from the stretch after a place: the columns before a joint there, and that lines that end later are no better.
record IsStep (begin : Begin) (last joined joint : ℕ) (best : Cost) : Type 0 where
  back : sum_by joined_width (slice_range begin.problem.stretches.now begin.start last)
      ≡ sum_by joined_width (slice_range begin.problem.stretches.now begin.start (last - 1)) + joined_width (stretch_at begin.problem.stretches.now (last - 1))
  reached : joined - joint ≡ (stretch_at begin.problem.stretches.now begin.start).opening
      + sum_by joined_width (slice_range begin.problem.stretches.now begin.start (last - 1)) + (stretch_at begin.problem.stretches.now (last - 1)).width
  place : last ≡ last - 1 + 1
  after : IsLeastAfter begin.problem.stretches.now begin.problem.columns begin.problem.last_columns begin.problem.ladder begin.run begin.start (last - 1 + 1) best

step : (begin : Begin) (last joined joint : ℕ) (best : Cost) → begin.start < last → last < length begin.problem.stretches.now
    → joined ≡ (stretch_at begin.problem.stretches.now begin.start).opening + sum_by joined_width (slice_range begin.problem.stretches.now begin.start last)
    → joint ≡ (stretch_at begin.problem.stretches.now (last - 1)).joint
    → IsLeastAfter begin.problem.stretches.now begin.problem.columns begin.problem.last_columns begin.problem.ladder begin.run begin.start last best
    → IsStep begin last joined joint best
step begin last joined joint best lt within before value after =
    let back = joined_back begin.problem.stretches.now begin.start last lt (omega (arith, within)) in
    let place : last ≡ last - 1 + 1 = omega (arith, lt) in
    record {
      back = back;
      reached = omega (arith, back, before, value);
      place = place;
      after = subst (λ p. IsLeastAfter begin.problem.stretches.now begin.problem.columns begin.problem.last_columns begin.problem.ladder begin.run begin.start p best) place after;
    }

pub loop-last-init : goal.loop-last-init
loop-last-init c =
    let longest = c.longest_line-longest.ensures in
    record {
      from = omega (arith, longest.furthest.after);
      within = omega (arith, longest.furthest.within);
      upto = longest.upto;
      joined = longest.joined;
      small_sum = longest.small;
      after = least_longest c.args.begin.problem.stretches.now c.args.begin.problem.columns c.args.begin.problem.last_columns c.args.begin.problem.ladder c.args.choices.now c.args.begin.run c.args.begin.start c.longest_line-longest.result.last c.choose-best.result c.choose-best.ensures.made c.choose-best.ensures.end c.requires.best longest.furthest;
      made = c.choose-best.ensures.made;
      small = c.choose-best.ensures.small;
    }

pub overflow_sub-reached : goal.overflow_sub-reached
overflow_sub-reached c =
    let before = c.loop-last.invariant in
    omega (arith, joined_back c.args.begin.problem.stretches.now c.args.begin.start c.loop-last.last c.loop-last-test.true (omega (arith, before.within)), before.joined, c.widened.ensures.value)

pub overflow_sub-joined : goal.overflow_sub-joined
overflow_sub-joined c =
    let before = c.loop-last.invariant in
    omega (arith, joined_back c.args.begin.problem.stretches.now c.args.begin.start c.loop-last.last c.loop-last-test.true (omega (arith, before.within)), before.joined, c.widened.ensures.value, c.widened-in-loop-last-2.ensures.value)

pub may_stand-requires-clause-plain : goal.may_stand-requires-clause-plain
may_stand-requires-clause-plain c = λ is same.
    let stretches = c.args.begin.problem.stretches.now in
    let start = c.args.begin.start in
    let last = c.loop-last.last in
    let before = c.loop-last.invariant in
    let back = joined_back stretches start last c.loop-last-test.true (omega (arith, before.within)) in
    let fit = plain_stands stretches c.args.begin.problem.columns c.args.begin.problem.ladder start (last - 1 + 1) (c.args.begin.problem.fits is) (inr (omega (arith, same))) in
    omega (arith, fit, width_to stretches start (last - 1), back, before.joined, c.widened.ensures.value, c.widened-in-loop-last.ensures.value)

pub returns-then-is_enough : goal.returns-then-is_enough
returns-then-is_enough c =
    let begin = c.args.begin in
    let last = c.loop-last.last in
    let before = c.loop-last.invariant in
    let step = step begin last c.loop-last.joined c.widened.result c.loop-last.best.cost c.loop-last-test.true before.within before.joined c.widened.ensures.value before.after in
    let enough = c.is_enough.ensures c.if-is_enough.true in
    record {
      least = least_enough begin.problem.stretches.now begin.problem.columns begin.problem.last_columns begin.problem.ladder begin.run begin.problem.closing begin.start (last - 1) c.saturating_sub.result (c.args.reach.last + 1) c.args.floor c.loop-last.best.cost begin.problem.most begin.before (omega (arith, step.place, before.within))
          (omega (arith, step.reached, c.saturating_sub.ensures, c.saturating_sub-most.ensures, c.from.ensures)) c.requires.floor (omega (arith, before.upto)) enough.0 enough.1 enough.2 step.after;
      made = before.made;
      small = before.small;
    }

pub choose-other-requires-clause-wide : goal.choose-other-requires-clause-wide
choose-other-requires-clause-wide c =
    let begin = c.args.begin in
    let last = c.loop-last.last in
    let before = c.loop-last.invariant in
    let step = step begin last c.loop-last.joined c.widened.result c.loop-last.best.cost c.loop-last-test.true before.within before.joined c.widened.ensures.value before.after in
    omega (arith, width_to begin.problem.stretches.now begin.start (last - 1), step.reached, c.widened-in-loop-last.ensures.value)

pub choose-other-requires-clause-stands : goal.choose-other-requires-clause-stands
choose-other-requires-clause-stands c =
    let begin = c.args.begin in
    let last = c.loop-last.last in
    let before = c.loop-last.invariant in
    let step = step begin last c.loop-last.joined c.widened.result c.loop-last.best.cost c.loop-last-test.true before.within before.joined c.widened.ensures.value before.after in
    let wide = c.loop-last.joined - c.widened.result + c.widened-in-loop-last.result in
    elim (told_true ((wide ≤ begin.problem.columns) ⊎ (last - 1 ≡ begin.start)) ((begin.problem.columns < wide) × (begin.start < last - 1)) c.may_stand.result c.may_stand.ensures c.if-may_stand.true) [
      | inl fit ↦ inl (omega (arith, fit, width_to begin.problem.stretches.now begin.start (last - 1), step.reached, c.widened-in-loop-last.ensures.value))
      | inr same ↦ inr (omega (arith, same))
    ]

pub loop-last-preserved-then-is_less : goal.loop-last-preserved-then-is_less
loop-last-preserved-then-is_less c =
    let begin = c.args.begin in
    let last = c.loop-last.last in
    let before = c.loop-last.invariant in
    let step = step begin last c.loop-last.joined c.widened.result c.loop-last.best.cost c.loop-last-test.true before.within before.joined c.widened.ensures.value before.after in
    let other = c.choose-other.result in
    let less = told_less other.cost c.loop-last.best.cost c.is_less.result c.is_less.ensures c.if-is_less.true in
    record {
      from = omega (arith, c.loop-last-test.true);
      within = omega (arith, before.within);
      upto = omega (arith, before.upto);
      joined = omega (arith, step.reached, c.widened-in-loop-last-2.ensures.value);
      small_sum = omega (arith, before.small_sum);
      after = least_tried begin.problem.stretches.now begin.problem.columns begin.problem.last_columns begin.problem.ladder c.args.choices.now begin.run begin.start (last - 1) c.loop-last.best.cost other step.after c.choose-other.ensures.made c.choose-other.ensures.end c.requires.best other.cost less (no_more_here other.cost);
      made = c.choose-other.ensures.made;
      small = c.choose-other.ensures.small;
    }

pub loop-last-preserved-else-is_less : goal.loop-last-preserved-else-is_less
loop-last-preserved-else-is_less c =
    let begin = c.args.begin in
    let last = c.loop-last.last in
    let before = c.loop-last.invariant in
    let step = step begin last c.loop-last.joined c.widened.result c.loop-last.best.cost c.loop-last-test.true before.within before.joined c.widened.ensures.value before.after in
    let other = c.choose-other.result in
    let more_or_same = told_no_less other.cost c.loop-last.best.cost c.is_less.result c.is_less.ensures c.if-is_less.false in
    record {
      from = omega (arith, c.loop-last-test.true);
      within = omega (arith, before.within);
      upto = omega (arith, before.upto);
      joined = omega (arith, step.reached, c.widened-in-loop-last-2.ensures.value);
      small_sum = omega (arith, before.small_sum);
      after = least_tried begin.problem.stretches.now begin.problem.columns begin.problem.last_columns begin.problem.ladder c.args.choices.now begin.run begin.start (last - 1) c.loop-last.best.cost other step.after c.choose-other.ensures.made c.choose-other.ensures.end c.requires.best c.loop-last.best.cost (no_more_here c.loop-last.best.cost) more_or_same;
      made = before.made;
      small = before.small;
    }

pub loop-last-preserved : goal.loop-last-preserved
loop-last-preserved c =
    let begin = c.args.begin in
    let last = c.loop-last.last in
    let before = c.loop-last.invariant in
    let step = step begin last c.loop-last.joined c.widened.result c.loop-last.best.cost c.loop-last-test.true before.within before.joined c.widened.ensures.value before.after in
    let width = c.loop-last.joined - c.widened.result + c.widened-in-loop-last.result in
    let no = told_false ((width ≤ begin.problem.columns) ⊎ (last - 1 ≡ begin.start)) ((begin.problem.columns < width) × (begin.start < last - 1)) c.may_stand.result c.may_stand.ensures c.if-may_stand.false in
    let wide : begin.problem.columns < line_width begin.problem.stretches.now begin.start (last - 1 + 1) = omega (arith, no.0, width_to begin.problem.stretches.now begin.start (last - 1), step.reached, c.widened-in-loop-last.ensures.value) in
    record {
      from = omega (arith, c.loop-last-test.true);
      within = omega (arith, before.within);
      upto = omega (arith, before.upto);
      joined = omega (arith, step.reached, c.widened-in-loop-last-2.ensures.value);
      small_sum = omega (arith, before.small_sum);
      after = least_wide begin.problem.stretches.now begin.problem.columns begin.problem.last_columns begin.problem.ladder begin.run begin.start (last - 1) c.loop-last.best.cost no.1 step.after wide;
      made = before.made;
      small = before.small;
    }

pub returns : goal.returns
returns c =
    let before = c.loop-last.invariant in
    let begin = c.args.begin in
    let same : c.loop-last.last ≡ begin.start = omega (arith, before.from, c.loop-last-test.false) in
    let after = subst (λ p. IsLeastAfter begin.problem.stretches.now begin.problem.columns begin.problem.last_columns begin.problem.ladder begin.run begin.start p c.loop-last.best.cost) same before.after in
    record {
      least = least_all begin.problem.stretches.now begin.problem.columns begin.problem.last_columns begin.problem.ladder begin.run begin.start c.loop-last.best.cost begin.before after;
      made = before.made;
      small = before.small;
    }
