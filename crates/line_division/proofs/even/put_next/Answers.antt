use Rattle.std.proofs.Common.{◌+◌, sym, subst, refl}
use Rattle.line_division.specs.declared.table.Choices.{Choices}
use Rattle.line_division.specs.Private.Best.{AreBest}
use Rattle.line_division.specs.Private.Table.{IsOpen}
use Rattle.line_division.proofs.Keeping.{next_kept}
use Rattle.line_division.proofs.even.put_next.Goals as goal

pub returns-clause-best : goal.returns-clause-best
returns-clause-best c =
    let stretches = c.args.begin.problem.stretches.now in
    let columns = c.args.begin.problem.columns in
    let last_columns = c.args.begin.problem.last_columns in
    let ladder = c.args.begin.problem.ladder in
    let old = c.args.choices.now in
    let start = c.args.begin.start in
    let last = c.last_run-last_run in
    let new : Choices = record { firsts = old.firsts; faults = old.faults; others = c.push.new.self; begins = old.begins } in
    let both = next_kept stretches columns last_columns ladder old new c.args.begin.run last.result start c.args.best c.args.begin.before last.ensures.from last.ensures.known c.requires.best c.requires.shorter
    refl refl c.in_ok-push.ensures.items refl c.requires.line.least last.ensures.made c.requires.line.small in
    subst (λ n. AreBest stretches columns last_columns ladder new start (n + 1)) (sym c.from.ensures) both.0

pub returns-clause-shorter : goal.returns-clause-shorter
returns-clause-shorter c =
    let stretches = c.args.begin.problem.stretches.now in
    let columns = c.args.begin.problem.columns in
    let last_columns = c.args.begin.problem.last_columns in
    let ladder = c.args.begin.problem.ladder in
    let old = c.args.choices.now in
    let start = c.args.begin.start in
    let last = c.last_run-last_run in
    let new : Choices = record { firsts = old.firsts; faults = old.faults; others = c.push.new.self; begins = old.begins } in
    let both = next_kept stretches columns last_columns ladder old new c.args.begin.run last.result start c.args.best c.args.begin.before last.ensures.from last.ensures.known c.requires.best c.requires.shorter
    refl refl c.in_ok-push.ensures.items refl c.requires.line.least last.ensures.made c.requires.line.small in
    subst (λ n. IsOpen new (n + 1) start) (sym c.from.ensures) both.1
