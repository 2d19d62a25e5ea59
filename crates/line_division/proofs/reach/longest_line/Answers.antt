use Rattle.std.proofs.Common.{◌≡◌, ◌+◌, ◌<◌, subst, arith, inl, inr}
use Rattle.std.proofs.lemmas.Bool.{cases_lt}
use Rattle.line_division.specs.Lines.{line_width}
use Rattle.line_division.proofs.Reaching.{joined_back}
use Rattle.line_division.proofs.Plain.{plain_longer}
use Rattle.line_division.proofs.Widths.{width_to}
use Rattle.line_division.proofs.reach.longest_line.Goals as goal

pub holds_more-requires-clause-plain : goal.holds_more-requires-clause-plain
holds_more-requires-clause-plain c = λ plain.
    let problem = c.args.problem in
    let before = c.loop-wide.invariant in
    plain_longer problem.stretches.now problem.columns problem.ladder c.args.start c.loop-wide.last (problem.fits plain) before.from
    (omega (arith, before.joined, before.wide, c.from.ensures, c.loop-wide-test.true))

pub overflow_sub-joined : goal.overflow_sub-joined
overflow_sub-joined c =
    let before = c.loop-wide.invariant in
    omega (arith, joined_back c.args.problem.stretches.now c.args.start c.loop-wide.last c.if-holds_more.ensures (omega (arith, before.upto, c.requires.within)), before.joined, c.joined_width-joined.ensures.value)

pub loop-wide-preserved : goal.loop-wide-preserved
loop-wide-preserved c =
    let stretches = c.args.problem.stretches.now in
    let columns = c.args.problem.columns in
    let start = c.args.start in
    let last = c.loop-wide.last in
    let before = c.loop-wide.invariant in
    let back = joined_back stretches start last c.if-holds_more.ensures (omega (arith, before.upto, c.requires.within)) in
    let wide : columns < line_width stretches start (last + 1) = omega (arith, width_to stretches start last, before.joined, before.wide, c.from.ensures, c.loop-wide-test.true) in
    record {
      from = omega (arith, c.if-holds_more.ensures);
      upto = omega (arith, before.upto);
      joined = omega (arith, back, before.joined, c.joined_width-joined.ensures.value);
      wide = omega (arith, c.own_width-in-loop-wide.ensures.value);
      small_sum = omega (arith, before.small_sum);
      small_wide = omega (arith, before.small_sum, c.own_width-in-loop-wide.ensures.small);
      beyond = λ later after within. elim (cases_lt (last + 1) later) [
        | inl further ↦ before.beyond later further within
        | inr here ↦
            let same : last + 1 ≡ later = omega (arith, here, after, c.if-holds_more.ensures) in
            subst (λ e. columns < line_width stretches start e) same wide
      ];
    }
