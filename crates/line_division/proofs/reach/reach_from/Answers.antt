use Rattle.std.proofs.Common.{arith}
use Rattle.line_division.proofs.Reaching.{joined_front, joined_back, beyond_earlier, beyond_less}
use Rattle.line_division.proofs.Plain.{plain_longer}
use Rattle.line_division.proofs.reach.reach_from.Goals as goal

pub loop-joined-init : goal.loop-joined-init
loop-joined-init c =
    let stretches = c.args.problem.stretches.now in
    let later = c.requires in
    let front = joined_front stretches c.args.start c.args.later.last (omega (arith, later.from)) (omega (arith, later.within)) in
    record {
      from = omega (arith, later.from);
      within = later.within;
      earlier = omega arith;
      joined = omega (arith, front, later.joined, c.joined_width.ensures.value);
      small_sum = omega (arith, later.small, c.joined_width.ensures.small);
      beyond = beyond_earlier stretches c.args.problem.columns c.args.start c.args.later.last (omega (arith, later.from)) later.beyond;
    }

pub holds_more-requires-clause-plain : goal.holds_more-requires-clause-plain
holds_more-requires-clause-plain c = λ plain.
    let problem = c.args.problem in
    let before = c.loop-joined.invariant in
    plain_longer problem.stretches.now problem.columns problem.ladder c.args.start c.loop-joined.last (problem.fits plain) before.from
    (omega (arith, before.joined, c.widened.ensures.value, c.from.ensures, c.loop-joined-test.true))

pub overflow_sub-joined : goal.overflow_sub-joined
overflow_sub-joined c =
    let before = c.loop-joined.invariant in
    omega (arith, joined_back c.args.problem.stretches.now c.args.start c.loop-joined.last c.if-holds_more.ensures (omega (arith, before.within)), before.joined, c.joined_width-joined.ensures.value)

pub loop-joined-preserved : goal.loop-joined-preserved
loop-joined-preserved c =
    let stretches = c.args.problem.stretches.now in
    let before = c.loop-joined.invariant in
    let back = joined_back stretches c.args.start c.loop-joined.last c.if-holds_more.ensures (omega (arith, before.within)) in
    record {
      from = omega (arith, c.if-holds_more.ensures);
      within = omega (arith, before.within);
      earlier = omega (arith, before.earlier);
      joined = omega (arith, back, before.joined, c.joined_width-joined.ensures.value);
      small_sum = omega (arith, before.small_sum);
      beyond = beyond_less stretches c.args.problem.columns c.args.start c.loop-joined.last before.beyond (λ lt. omega (arith, c.loop-joined-test.true, c.from.ensures, before.joined, c.widened.ensures.value));
    }
