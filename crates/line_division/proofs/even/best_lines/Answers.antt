use Rattle.std.proofs.Common.{◌≡◌, ℕ, ◌+◌, ◌-◌, ◌≤◌, length, sym, subst, rules, arith}
use Rattle.std.proofs.lemmas.Grind.{common_steps}
use Rattle.line_division.specs.declared.cost.Cost.{Cost}
use Rattle.line_division.specs.Private.Best.{runs, floor_after}
use Rattle.line_division.specs.Private.Problem.{AreBestOf, IsFloorOf, EachIsFloorOf, AreFloorsOf}
use Rattle.line_division.proofs.Least.{best_earlier}
use Rattle.line_division.proofs.Reaching.{floor_none, floor_within}
use Rattle.line_division.proofs.even.best_lines.Goals as goal

pub loop-start-init : goal.loop-start-init
loop-start-init c =
    let problem = c.args.problem in
    let stretches = problem.stretches.now in
    record {
      best = c.in_ok-choices.ensures;
      reach = λ some. c.last_reach-reach.ensures problem.columns some;
      first = λ some. floor_none stretches problem.columns problem.last_columns problem.ladder 0 (length stretches) (c.last_reach-reach.result.last + 1);
      first_low = omega arith;
      many = search (rules, arith);
      floors = λ some. grind (arith, common_steps, floor_none);
      low = grind (arith, common_steps);
    }

pub put_best_lines-requires-clause-best : goal.put_best_lines-requires-clause-best
put_best_lines-requires-clause-best c =
    let start = c.loop-start.start - 1 in
    let same : c.loop-start.start ≡ start + 1 = omega arith in
    best_earlier c.args.problem.stretches.now c.args.problem.columns c.args.problem.last_columns c.args.problem.ladder c.loop-start.choices start
    (subst (λ p. AreBestOf c.args.problem c.loop-start.choices p (runs c.args.problem.ladder)) same c.loop-start.invariant.best)

pub put_best_lines-requires-clause-reach : goal.put_best_lines-requires-clause-reach
put_best_lines-requires-clause-reach c = c.loop-start.invariant.reach (omega arith)

pub put_best_lines-requires-clause-floors : goal.put_best_lines-requires-clause-floors
put_best_lines-requires-clause-floors c =
    let problem = c.args.problem in
    let start = c.loop-start.start - 1 in
    let to = c.loop-start.reach.last + 1 in
    let same : c.loop-start.start ≡ start + 1 = omega arith in
    let before = c.loop-start.invariant in
    let floors = c.loop-start.floors.items in
    let each : EachIsFloorOf problem (start + 1) to floors = subst (λ p. EachIsFloorOf problem p to floors) same (before.floors (omega (arith, same))) in
    subst (AreFloorsOf problem (start + 1) to) (sym c.deref.ensures.value) (record { many = before.many; each = each; low = before.low })

pub put_best_lines-requires-clause-first : goal.put_best_lines-requires-clause-first
put_best_lines-requires-clause-first c =
    let start = c.loop-start.start - 1 in
    let same : c.loop-start.start ≡ start + 1 = omega arith in
    subst (λ p. IsFloorOf c.args.problem 0 p (c.loop-start.reach.last + 1) c.loop-start.first) same (c.loop-start.invariant.first (omega (arith, same)))

pub loop-start-preserved : goal.loop-start-preserved
loop-start-preserved c =
    let problem = c.args.problem in
    let before = c.loop-start.invariant in
    let upto = c.loop-start.reach.last + 1 in
    let to = c.reach_before-reach.result.last + 1 in
    let fewer : to ≤ upto = omega (arith, c.reach_before-reach.ensures.earlier) in
    let start = c.loop-start.start - 1 in
    let same : c.loop-start.start ≡ start + 1 = omega arith in
    let within : (r : ℕ) (floor : Cost) → IsFloorOf problem r start upto floor → IsFloorOf problem r start to floor = λ r floor.
    floor_within problem.stretches.now problem.columns problem.last_columns problem.ladder r start to upto floor fewer in
    record {
      best = c.in_ok-put_best_lines.ensures;
      reach = c.reach_before-reach.ensures.reach;
      first = λ some. within 0 c.next_floor-first.result (c.next_floor-first.ensures.floor some upto (omega arith)
          (subst (λ p. IsFloorOf problem 0 p upto c.loop-start.first) same (before.first (omega (arith, same)))));
      first_low = c.next_floor-first.ensures.low before.first_low;
      many = c.next_floors.ensures.many;
      floors = λ some r other few. within r (floor_after c.next_floors.new.floors.items r) (c.next_floors.ensures.floors some upto (omega arith)
          (subst (λ p. EachIsFloorOf problem p upto c.loop-start.floors.items) same (before.floors (omega (arith, same)))) r other few);
      low = c.next_floors.ensures.low before.low;
    }

pub returns : goal.returns
returns c =
    let first : c.loop-start.start ≡ 0 = omega arith in
    subst (λ p. AreBestOf c.args.problem c.loop-start.choices p (runs c.args.problem.ladder)) first c.loop-start.invariant.best
