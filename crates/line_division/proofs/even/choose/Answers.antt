use Rattle.std.proofs.Common.{ap, arith}
use Rattle.line_division.proofs.Least.{known_after, kept_known}
use Rattle.line_division.proofs.Plain.{plain_stands, plain_over, plain_known}
use Rattle.line_division.proofs.even.choose.Goals as goal

pub as_known-cost-requires : goal.as_known-cost-requires
as_known-cost-requires c = λ is.
    let stretches = c.args.begin.problem.stretches.now in
    let ladder = c.args.begin.problem.ladder in
    let plain = c.args.begin.problem.fits is in
    let later = c.run_of.result in
    let fit = plain_stands stretches c.args.begin.problem.columns ladder c.args.begin.start c.args.end plain c.requires.stands in
    let over = plain_over ladder c.hyphens_to-hyphens.result plain.0 in
    let rest = plain_known stretches c.args.begin.problem.columns c.args.begin.problem.last_columns ladder c.args.choices.now c.args.begin.start c.args.begin.run later c.args.end plain c.requires.best
    (known_after ladder c.args.begin.start c.args.begin.run later c.args.end c.requires.order c.run_of.ensures.known) c.requires.within in (
      omega (arith, ap (λ k. k.excess) c.plus.ensures, ap (λ k. k.excess) c.line_cost-line.ensures.value, fit, rest.0, ap (λ k. k.cost.excess) c.choice_at-after.ensures),
      omega (arith, ap (λ k. k.over) c.plus.ensures, ap (λ k. k.over) c.line_cost-line.ensures.value, over, rest.1, ap (λ k. k.cost.over) c.choice_at-after.ensures),
    )

pub choice_at-after-requires : goal.choice_at-after-requires
choice_at-after-requires c =
    kept_known c.args.begin.problem.stretches.now c.args.begin.problem.columns c.args.begin.problem.last_columns c.args.begin.problem.ladder c.args.choices.now c.args.begin.start c.args.begin.run c.run_of.result c.args.end c.requires.best
    (known_after c.args.begin.problem.ladder c.args.begin.start c.args.begin.run c.run_of.result c.args.end c.requires.order c.run_of.ensures.known) c.requires.within
