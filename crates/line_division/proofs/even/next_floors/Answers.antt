use Rattle.std.proofs.Common.{◌≡◌, ◌+◌, ◌-◌, ◌^◌, ◌<◌, ◌≤◌, length, set, length-set, sym, subst, ◌∙◌, arith, inl, inr}
use Rattle.std.proofs.lemmas.Bool.{cases_eq}
use Rattle.std.proofs.lemmas.List.{get_or-set_same, get_or-set_other}
use Rattle.line_division.specs.Cost.{nothing}
use Rattle.line_division.specs.Private.Best.{runs, floor_after, IsFloor}
use Rattle.line_division.proofs.Reaching.{floor_read}
use Rattle.line_division.proofs.even.next_floors.Goals as goal

pub loop-run-preserved : goal.loop-run-preserved
loop-run-preserved c =
    let before = c.loop-run.invariant in
    let start = c.args.span.start in
    let last = c.args.span.last in
    let run = c.loop-run.run in
    let old = c.loop-run.floors.items in
    let next = c.next_floor in
    let new = set old (run - 1) next.result in
    let few : run < runs c.args.problem.ladder = omega (arith, c.loop-run-test.true, c.runs-run-end.ensures.value) in
    let inside : run - 1 < length old = omega (arith, few, before.many, before.some) in
    let here : floor_after new run ≡ next.result = get_or-set_same old (run - 1) next.result nothing inside in
    let read : floor_after old run ≡ c.index.result.now = floor_read old run c.index.result.now inside c.index.ensures in
    record {
      some = omega arith;
      many = omega (arith, length-set old (run - 1) next.result, before.many);
      each = λ begun upto fewer below r some less. elim (cases_eq run r) [
        | inl same ↦
            let own = subst (IsFloor c.args.problem.stretches.now c.args.problem.columns c.args.problem.last_columns c.args.problem.ladder run (start + 1) upto) (sym (before.rest run (omega arith)) ∙ read) (below run before.some few) in
            subst (λ q. IsFloor c.args.problem.stretches.now c.args.problem.columns c.args.problem.last_columns c.args.problem.ladder q start last (floor_after new q)) same
            (subst (IsFloor c.args.problem.stretches.now c.args.problem.columns c.args.problem.last_columns c.args.problem.ladder run start last) (sym here) (next.ensures.floor begun upto fewer own))
        | inr other ↦ subst (IsFloor c.args.problem.stretches.now c.args.problem.columns c.args.problem.last_columns c.args.problem.ladder r start last) (sym (get_or-set_other old (run - 1) (r - 1) next.result nothing (λ e. omega (arith, e, some, less, before.some, other)))) (before.each begun upto fewer below r some (omega (arith, less, other)))
      ];
      rest = λ r past. get_or-set_other old (run - 1) (r - 1) next.result nothing (λ e. omega (arith, e, past, before.some)) ∙ before.rest r (omega (arith, past));
      low = λ all r some. elim (cases_eq run r) [
        | inl same ↦ subst (λ q. (floor_after new q).spent ≤ 2 ^ 63) same (subst (λ f. f.spent ≤ 2 ^ 63) (sym here) (next.ensures.low (subst (λ f. f.spent ≤ 2 ^ 63) read (before.low all run before.some))))
        | inr other ↦ subst (λ f. f.spent ≤ 2 ^ 63) (sym (get_or-set_other old (run - 1) (r - 1) next.result nothing (λ e. omega (arith, e, some, before.some, other)))) (before.low all r some)
      ];
    }

pub returns-clause-floors : goal.returns-clause-floors
returns-clause-floors c = λ begun upto fewer below r some few. c.loop-run.invariant.each begun upto fewer below r some (omega (arith, few, c.loop-run-test.false, c.runs-run-end.ensures.value))
