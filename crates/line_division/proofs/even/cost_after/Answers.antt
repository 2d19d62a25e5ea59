use Rattle.std.proofs.Common.{◌≡◌, ap, refl, rules, arith, inr}
use Rattle.line_division.specs.Cost.{together}
use Rattle.line_division.specs.Lines.{hyphens_to}
use Rattle.line_division.specs.Private.Best.{runs, run_of, over_cost}
use Rattle.line_division.specs.Private.Table.{choice_at}
use Rattle.line_division.proofs.Plain.{plain_over, plain_known}
use Rattle.line_division.proofs.Least.{kept_known}
use Rattle.line_division.proofs.Reaching.{floor_here}
use Rattle.line_division.proofs.even.cost_after.Goals as goal

pub as_known-requires : goal.as_known-requires
as_known-requires c = λ is.
    let plain = c.args.problem.fits is in
    let few = c.run_of.ensures.known in
    let over = plain_over c.args.problem.ladder c.hyphens_to-hyphens.result plain.0 in
    let rest = plain_known c.args.problem.stretches.now c.args.problem.columns c.args.problem.last_columns c.args.problem.ladder c.args.choices.now c.args.end (runs c.args.problem.ladder) c.run_of.result c.args.end plain c.requires.best
    (few, inr (refl, few)) c.requires.within in (
      omega (arith, ap (λ k. k.excess) c.plus.ensures, rest.0, ap (λ k. k.cost.excess) c.choice_at-after.ensures),
      omega (arith, ap (λ k. k.over) c.plus.ensures, c.line_over.ensures.value, over, rest.1, ap (λ k. k.cost.over) c.choice_at-after.ensures),
    )

pub returns-clause-floor : goal.returns-clause-floor
returns-clause-floor c =
    let stretches = c.args.problem.stretches.now in
    let ladder = c.args.problem.ladder in
    let choices = c.args.choices.now in
    let hyphens = hyphens_to stretches c.args.run c.args.end in
    let value : c.as_known.result ≡ together (over_cost ladder hyphens) (choice_at choices (run_of ladder hyphens) c.args.end).cost = search (rules, arith) in
    floor_here stretches c.args.problem.columns c.args.problem.last_columns ladder choices c.args.run c.args.end c.as_known.result c.requires.within c.requires.best value

pub choice_at-after-requires : goal.choice_at-after-requires
choice_at-after-requires c =
    kept_known c.args.problem.stretches.now c.args.problem.columns c.args.problem.last_columns c.args.problem.ladder c.args.choices.now c.args.end (runs c.args.problem.ladder) c.run_of.result c.args.end c.requires.best
    (c.run_of.ensures.known, inr (refl, c.run_of.ensures.known)) c.requires.within
