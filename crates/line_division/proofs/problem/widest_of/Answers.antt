use Rattle.std.proofs.Common.{◌≤◌, length, arith, refl}
use Rattle.line_division.proofs.Reaching.{most_more, most_all}
use Rattle.line_division.proofs.problem.widest_of.Goals as goal

pub loop-stretch-preserved : goal.loop-stretch-preserved
loop-stretch-preserved c =
    let stretches = c.args.stretches.now in
    let here = c.loop-stretch.stretch-index in
    let before = c.loop-stretch.invariant in
    let most = c.loop-stretch.most in
    let opening = c.greater in
    let width = c.greater-in-loop-stretch in
    let closing = c.greater-in-loop-stretch-2 in
    record {
      opening = most_more (λ s. s.opening) stretches here most.opening opening.result opening.ensures.first opening.ensures.second before.opening;
      width = most_more (λ s. s.width) stretches here most.width width.result width.ensures.first width.ensures.second before.width;
      closing = most_more (λ s. s.closing) stretches here most.closing closing.result closing.ensures.first closing.ensures.second before.closing;
    }

pub returns : goal.returns
returns c =
    let stretches = c.args.stretches.now in
    let all = c.loop-stretch.stretch-index in
    let most = c.loop-stretch.most in
    let past : length stretches ≤ all = omega (arith, c.loop-stretch-test.false, c.loop-stretch.auto.stretch-index-end) in
    record {
      opening = most_all (λ s. s.opening) stretches all most.opening refl past c.loop-stretch.invariant.opening;
      width = most_all (λ s. s.width) stretches all most.width refl past c.loop-stretch.invariant.width;
      closing = most_all (λ s. s.closing) stretches all most.closing refl past c.loop-stretch.invariant.closing;
    }
