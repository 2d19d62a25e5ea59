use Rattle.std.proofs.Common.{◌+◌, ◌<◌, length, slice_index_or, sym, ap, subst, ◌∙◌, arith, inl, inr}
use Rattle.line_division.specs.Private.Best.{AreBest}
use Rattle.line_division.specs.Private.Table.{IsOpen}
use Rattle.line_division.proofs.Keeping.{first_alike, first_kept, first_open}
use Rattle.line_division.proofs.Plain.{plain_least}
use Rattle.line_division.proofs.even.put_first.Goals as goal

pub keep_first-requires-clause-faults : goal.keep_first-requires-clause-faults
keep_first-requires-clause-faults c = λ few.
    let problem = c.args.problem in
    let best = c.requires.best in
    elim best.faulty [
      | inl long ↦ absurd (omega (arith, few, ap (λ v. length v.items) c.begin_others.ensures.faults, long, c.requires.start))
      | inr plain ↦ plain_least problem.stretches.now problem.columns problem.last_columns problem.ladder 0 c.args.start c.args.best.cost (omega (arith, c.requires.start)) plain c.requires.line.least
    ]

pub returns-clause-best : goal.returns-clause-best
returns-clause-best c =
    let stretches = c.args.problem.stretches.now in
    let columns = c.args.problem.columns in
    let last_columns = c.args.problem.last_columns in
    let ladder = c.args.problem.ladder in
    let old = c.args.choices.now in
    let start = c.args.start in
    let last = c.last_run-last_run in
    let begun = c.begin_others in
    let kept = c.keep_first in
    let new = kept.new.choices in
    subst (λ n. AreBest stretches columns last_columns ladder new start (n + 1)) (sym c.from.ensures)
    (first_kept stretches columns last_columns ladder old new last.result start c.args.best c.requires.start last.ensures.known c.requires.best
    kept.ensures.here (λ e after. kept.ensures.elsewhere e after ∙ first_alike old begun.new.choices e begun.ensures.firsts begun.ensures.faults)
    (kept.ensures.firsts ∙ ap (λ v. length v.items) begun.ensures.firsts) (kept.ensures.faults ∙ ap (λ v. length v.items) begun.ensures.faults)
    (ap (λ v. v.items) kept.ensures.others ∙ begun.ensures.others)
    (ap (λ v. length v.items) kept.ensures.begins ∙ begun.ensures.many)
    (λ e after. ap (λ v. slice_index_or v.items e 0) kept.ensures.begins ∙ begun.ensures.later e after)
    c.requires.line.least (λ r low high. last.ensures.made r low high) c.requires.line.small)

pub returns-clause-shorter : goal.returns-clause-shorter
returns-clause-shorter c = λ few.
    let start = c.args.start in
    let last = c.last_run-last_run in
    let begun = c.begin_others in
    let kept = c.keep_first in
    let more : 1 < c.runs.result = omega (arith, few, c.runs.ensures.value) in
    subst (λ n. IsOpen kept.new.choices (n + 1) start) (sym c.from.ensures)
    (first_open c.args.choices.now kept.new.choices last.result start c.args.best kept.ensures.here
    (ap (λ v. v.items) kept.ensures.others ∙ begun.ensures.others)
    (ap (λ v. slice_index_or v.items start 0) kept.ensures.begins ∙ begun.ensures.here more))
