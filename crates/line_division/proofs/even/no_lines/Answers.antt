use Rattle.std.proofs.Common.{◌≡◌, ◌+◌, ◌-◌, ◌<◌, ◌⊎◌, length, replicate, ap, ap₂, ◌∙◌, inl, inr, slice_index_or, rules, arith}
use Rattle.std.proofs.lemmas.Bool.{cases_Bool}
use Rattle.std.proofs.lemmas.List.{get_or-replicate}
use Rattle.line_division.specs.declared.table.First.{First}
use Rattle.line_division.specs.declared.table.Kept.{Kept}
use Rattle.line_division.specs.Cost.{nothing}
use Rattle.line_division.specs.Private.Best.{runs}
use Rattle.line_division.specs.Private.Plain.{IsPlain}
use Rattle.line_division.specs.Private.Table.{no_first, no_faults, first_with}
use Rattle.line_division.proofs.Keeping.{no_faults_at}
use Rattle.line_division.proofs.Least.{best_at_end}
use Rattle.line_division.proofs.even.no_lines.Goals as goal

pub returns : goal.returns
returns c =
    let problem = c.args.problem in
    let stretches = problem.stretches.now in
    let ladder = problem.ladder in
    let firsts = c.in_ok-vec.field-0.items in
    let faults = c.in_ok-vec-2.field-0.items in
    let begins = c.in_ok-vec-3.field-0.items in
    let to = length stretches in
    let first : First = record { spent = 0; end = to; last_run = runs ladder - 1 } in
    let final : Kept = record { cost = nothing; end = to; last_run = runs ladder - 1 } in
    let read : c.longest_run.result ≡ runs ladder - 1 = omega (arith, c.longest_run.ensures) in
    let all : firsts ≡ replicate (length stretches + 1) first = c.in_ok-vec.ensures.items_if_clones_equal (λ y e. e) ∙ ap (λ l. replicate (length stretches + 1) (record { spent = 0; end = to; last_run = l })) read in
    let none : faults ≡ replicate c.fault_count-faults.result no_faults = c.in_ok-vec-2.ensures.items_if_clones_equal (λ y e. e) in
    let many : length firsts ≡ length stretches + 1 = search (rules, arith) in
    let begun : 1 < runs ladder → length begins ≡ length stretches + 1 = λ some. search (rules, arith) in
    let faulty : (length faults ≡ length stretches + 1) ⊎ IsPlain stretches problem.columns ladder = elim (cases_Bool problem.plain) [
      | inl is ↦ inr (problem.fits is)
      | inr other ↦ inl (search (rules, arith))
    ] in
    let last : first_with (slice_index_or firsts to no_first) (slice_index_or faults to no_faults) ≡ final =
    ap₂ (λ xs ys. first_with (slice_index_or xs to no_first) (slice_index_or ys to no_faults)) all none
    ∙ ap₂ first_with (get_or-replicate (length stretches + 1) to first no_first (omega arith)) (no_faults_at c.fault_count-faults.result to) in
    best_at_end stretches problem.columns problem.last_columns ladder (record { firsts = c.in_ok-vec.field-0; faults = c.in_ok-vec-2.field-0; others = c.new.result; begins = c.in_ok-vec-3.field-0 }) (runs ladder) to many faulty begun last
