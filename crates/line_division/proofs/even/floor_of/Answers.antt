use Rattle.std.proofs.Common.{◌≡◌, ◌+◌, ◌-◌, subst, ap, arith, inl, inr}
use Rattle.line_division.specs.Private.Best.{IsFloor}
use Rattle.line_division.proofs.Least.{best_later}
use Rattle.line_division.proofs.Reaching.{floor_joined}
use Rattle.line_division.proofs.even.floor_of.Goals as goal

pub loop-place-init : goal.loop-place-init
loop-place-init c = record {
  floor = λ k is.
      let same : c.args.start ≡ k = omega (arith, is) in
      subst (λ p. IsFloor c.args.problem.stretches.now c.args.problem.columns c.args.problem.last_columns c.args.problem.ladder c.args.run c.args.start p c.cost_after-floor.result) same c.cost_after-floor.ensures.floor;
  low = c.cost_after-floor.ensures.low;
}

pub cost_after-requires-clause-best : goal.cost_after-requires-clause-best
cost_after-requires-clause-best c = best_later c.args.problem.stretches.now c.args.problem.columns c.args.problem.last_columns c.args.problem.ladder c.args.choices.now c.args.start c.loop-place.place (omega (arith, c.loop-place.auto.place)) c.requires.best

pub loop-place-preserved : goal.loop-place-preserved
loop-place-preserved c =
    let before = c.loop-place.invariant in
    let place = c.loop-place.place in
    let from : place ≡ place - 1 + 1 = omega (arith, c.loop-place.auto.place) in
    let new = c.lesser-floor in
    record {
      floor = λ k is.
          let same : place ≡ k = omega (arith, is) in
          let one = before.floor (place - 1) (omega (arith, from)) in
          let own = c.cost_after.ensures.floor in
          let above = subst (λ p. IsFloor c.args.problem.stretches.now c.args.problem.columns c.args.problem.last_columns c.args.problem.ladder c.args.run p place c.cost_after.result) from own in
          let upto = subst (λ p. IsFloor c.args.problem.stretches.now c.args.problem.columns c.args.problem.last_columns c.args.problem.ladder c.args.run (place - 1 + 1) p c.cost_after.result) same above in
          floor_joined c.args.problem.stretches.now c.args.problem.columns c.args.problem.last_columns c.args.problem.ladder c.args.run c.args.start (place - 1) k c.loop-place.floor c.cost_after.result new.result one upto new.ensures.first new.ensures.second;
      low = elim new.ensures.either [
        | inl same ↦ omega (arith, before.low, ap (λ k. k.spent) same)
        | inr other ↦ omega (arith, c.cost_after.ensures.low, ap (λ k. k.spent) other)
      ];
    }

pub returns-clause-floor : goal.returns-clause-floor
returns-clause-floor c = c.loop-place.invariant.floor c.args.last (omega (arith, c.loop-place-test.false, c.loop-place.auto.place-end, c.requires.order))
