use Rattle.std.proofs.Common.{◌≡◌, ◌++◌, [], ◌∷◌, sym, ap, subst, ◌∙◌, arith}
use Rattle.line_division.specs.Lines.{hyphens_to}
use Rattle.line_division.specs.Private.Best.{runs, run_of, IsMade}
use Rattle.line_division.specs.Private.Table.{choice_at}
use Rattle.line_division.proofs.Least.{GoesOn, known_all, kept_known, goes_further, ends_least, least_fits, least_keeps}
use Rattle.line_division.proofs.even.best_ends.Goals as goal

pub loop-start-smaller : goal.loop-start-smaller
loop-start-smaller c =
    let stretches = c.args.paragraph.stretches.now in
    let ladder = c.args.ladder in
    let choices = c.in_ok-choices.choices in
    let start = c.loop-start.start in
    let run = c.loop-start.run in
    let best = c.in_ok-choices.ensures in
    let known = c.loop-start.invariant.known in
    let made = best.made run start (known_all ladder run start known) c.loop-start-test.true in
    let read : choice_at choices run start ≡ c.choice_at-start.result = sym c.choice_at-start.ensures in
    omega (arith, made.after, made.within, c.loop-start-test.true, ap (λ k. k.end) read)

pub loop-start-preserved : goal.loop-start-preserved
loop-start-preserved c =
    let stretches = c.args.paragraph.stretches.now in
    let columns = c.args.paragraph.columns in
    let last_columns = c.args.paragraph.last_columns in
    let ladder = c.args.ladder in
    let choices = c.in_ok-choices.choices in
    let start = c.loop-start.start in
    let run = c.loop-start.run in
    let ends = c.loop-start.ends.items in
    let best = c.in_ok-choices.ensures in
    let known = c.loop-start.invariant.known in
    let choice = c.choice_at-start.result in
    let read : choice_at choices run start ≡ choice = sym c.choice_at-start.ensures in
    let made : IsMade stretches columns last_columns ladder choices run start choice = subst (IsMade stretches columns last_columns ladder choices run start) read (best.made run start (known_all ladder run start known) c.loop-start-test.true) in
    let goes = goes_further stretches columns last_columns ladder choices run start ends choice c.loop-start.invariant.goes read made in
    let later : run_of ladder (hyphens_to stretches run choice.end) ≡ c.run_of-run.result = ap (run_of ladder) (sym c.hyphens_to.ensures) ∙ sym c.run_of-run.ensures.value in
    record {
      within = made.within;
      known = c.run_of-run.ensures.known;
      goes = subst (GoesOn stretches columns last_columns ladder choices c.run_of-run.result choice.end) (sym c.in_ok-push.ensures.items)
          (subst (λ r. GoesOn stretches columns last_columns ladder choices r choice.end (ends ++ choice.end ∷ [])) later goes);
    }

pub returns-clause-divides : goal.returns-clause-divides
returns-clause-divides c =
    let before = c.loop-start.invariant in
    let all = ends_least c.args.paragraph.stretches.now c.args.paragraph.columns c.args.paragraph.last_columns c.args.ladder c.in_ok-choices.choices c.loop-start.run c.loop-start.start c.loop-start.ends.items before.goes c.in_ok-choices.ensures before.known (omega (arith, before.within, c.loop-start-test.false)) in
    all.0

pub returns-clause-least : goal.returns-clause-least
returns-clause-least c =
    let before = c.loop-start.invariant in
    let all = ends_least c.args.paragraph.stretches.now c.args.paragraph.columns c.args.paragraph.last_columns c.args.ladder c.in_ok-choices.choices c.loop-start.run c.loop-start.start c.loop-start.ends.items before.goes c.in_ok-choices.ensures before.known (omega (arith, before.within, c.loop-start-test.false)) in
    all.1

pub returns-clause-fits : goal.returns-clause-fits
returns-clause-fits c =
    let before = c.loop-start.invariant in
    let all = ends_least c.args.paragraph.stretches.now c.args.paragraph.columns c.args.paragraph.last_columns c.args.ladder c.in_ok-choices.choices c.loop-start.run c.loop-start.start c.loop-start.ends.items before.goes c.in_ok-choices.ensures before.known (omega (arith, before.within, c.loop-start-test.false)) in
    least_fits c.args.paragraph.stretches.now c.args.paragraph.columns c.args.paragraph.last_columns c.args.ladder c.loop-start.ends.items all.1

pub returns-clause-ladder : goal.returns-clause-ladder
returns-clause-ladder c =
    let before = c.loop-start.invariant in
    let all = ends_least c.args.paragraph.stretches.now c.args.paragraph.columns c.args.paragraph.last_columns c.args.ladder c.in_ok-choices.choices c.loop-start.run c.loop-start.start c.loop-start.ends.items before.goes c.in_ok-choices.ensures before.known (omega (arith, before.within, c.loop-start-test.false)) in
    least_keeps c.args.paragraph.stretches.now c.args.paragraph.columns c.args.paragraph.last_columns c.args.ladder c.loop-start.ends.items all.1

pub choice_at-start-requires : goal.choice_at-start-requires
choice_at-start-requires c =
    kept_known c.args.paragraph.stretches.now c.args.paragraph.columns c.args.paragraph.last_columns c.args.ladder c.in_ok-choices.choices 0 (runs c.args.ladder) c.loop-start.run c.loop-start.start c.in_ok-choices.ensures
    (known_all c.args.ladder c.loop-start.run c.loop-start.start c.loop-start.invariant.known) (omega (arith, c.loop-start-test.true))
