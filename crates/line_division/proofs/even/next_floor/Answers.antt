use Rattle.std.proofs.Common.{◌+◌, ap, arith, inl, inr}
use Rattle.line_division.proofs.Reaching.{floor_joined, floor_within}
use Rattle.line_division.proofs.even.next_floor.Goals as goal

pub returns-clause-floor : goal.returns-clause-floor
returns-clause-floor c = λ some upto fewer below.
    floor_joined c.args.problem.stretches.now c.args.problem.columns c.args.problem.last_columns c.args.problem.ladder c.args.run c.args.span.start c.args.span.start c.args.span.last c.cost_after.result c.args.floor c.lesser.result c.cost_after.ensures.floor
    (floor_within c.args.problem.stretches.now c.args.problem.columns c.args.problem.last_columns c.args.problem.ladder c.args.run (c.args.span.start + 1) c.args.span.last upto c.args.floor fewer below) c.lesser.ensures.second c.lesser.ensures.first

pub returns-clause-low : goal.returns-clause-low
returns-clause-low c = λ low. elim c.lesser.ensures.either [
  | inl same ↦ omega (arith, low, ap (λ k. k.spent) same)
  | inr other ↦ omega (arith, c.cost_after.ensures.low, ap (λ k. k.spent) other)
]
