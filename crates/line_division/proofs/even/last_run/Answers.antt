use Rattle.std.proofs.Common.{◌+◌, ◌<◌, ◌≤◌, sym, subst, ◌∙◌, arith}
use Rattle.line_division.specs.Private.Best.{runs, IsKnown}
use Rattle.line_division.specs.Private.Table.{row_at, kept_at}
use Rattle.line_division.proofs.Least.{known_after, made_longer}
use Rattle.line_division.proofs.Rows.{has_reaches}
use Rattle.line_division.proofs.even.last_run.Goals as goal

pub overflow_sub-result : goal.overflow_sub-result
overflow_sub-result c =
    let run = c.args.begin.run in
    let end = c.args.best.end in
    let ladder = c.args.begin.problem.ladder in
    let few : run + 1 < runs ladder = omega (arith, c.args.begin.known, c.if-run-from.false, c.from.ensures, c.longest_run-longest.ensures) in
    let known : IsKnown ladder c.args.begin.start run (run + 1) end = known_after ladder c.args.begin.start run (run + 1) end c.requires.made.after few in
    let reaches = has_reaches (row_at c.args.choices.now end) (run + 1) (c.requires.best.kept (run + 1) end known c.requires.made.within) in
    omega (arith, subst (λ k. run + 1 ≤ k.last_run) (sym c.kept_at.ensures) reaches)

pub returns-clause-from : goal.returns-clause-from
returns-clause-from c =
    let run = c.args.begin.run in
    let end = c.args.best.end in
    let ladder = c.args.begin.problem.ladder in
    let few : run + 1 < runs ladder = omega (arith, c.args.begin.known, c.if-run-from.false, c.from.ensures, c.longest_run-longest.ensures) in
    let known : IsKnown ladder c.args.begin.start run (run + 1) end = known_after ladder c.args.begin.start run (run + 1) end c.requires.made.after few in
    let reaches = has_reaches (row_at c.args.choices.now end) (run + 1) (c.requires.best.kept (run + 1) end known c.requires.made.within) in
    omega (arith, subst (λ k. run + 1 ≤ k.last_run) (sym c.kept_at.ensures) reaches)

pub returns-clause-made : goal.returns-clause-made
returns-clause-made c = λ r from upto.
    let run = c.args.begin.run in
    let start = c.args.begin.start in
    let best = c.args.best in
    let ladder = c.args.begin.problem.ladder in
    let choices = c.args.choices.now in
    let few : run + 1 < runs ladder = omega (arith, c.args.begin.known, c.if-run-from.false, c.from.ensures, c.longest_run-longest.ensures) in
    let known : IsKnown ladder start run (run + 1) best.end = known_after ladder start run (run + 1) best.end c.requires.made.after few in
    let reaches = has_reaches (row_at choices best.end) (run + 1) (c.requires.best.kept (run + 1) best.end known c.requires.made.within) in
    let far : r + 1 ≤ (kept_at choices (run + 1) best.end).last_run = subst (λ k. r + 1 ≤ k.last_run) c.kept_at.ensures (omega (arith, upto, subst (λ k. run + 1 ≤ k.last_run) (sym c.kept_at.ensures) reaches)) in
    made_longer c.args.begin.problem.stretches.now c.args.begin.problem.columns c.args.begin.problem.last_columns ladder choices run r start best
    (λ none. c.if-hyphens_to-eq0.false (c.hyphens_to.ensures ∙ none)) (c.requires.best.short (run + 1) best.end known c.requires.made.within) from far c.requires.made
