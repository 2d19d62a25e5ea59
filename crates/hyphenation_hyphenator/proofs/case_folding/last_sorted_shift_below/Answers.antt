use Rattle.std.proofs.Common.{nat_lt, rules, tests, ◌∙◌}
use Rattle.std.proofs.lemmas.List.Sorted.{IsPartitionPoint-from_clause, IsPartitionedBy-ltb}
use Rattle.hyphenation_hyphenator.specs.declared.case_folding.Shift.{Shift}
use Rattle.hyphenation_hyphenator.proofs.ShiftOrder.{last_before}
use Rattle.hyphenation_hyphenator.proofs.case_folding.last_sorted_shift_below.Goals as goal

pub returns : goal.returns
returns c =
    let parted = IsPartitionedBy-ltb (λ (s : Shift). s.index) c.args.shifts.now c.args.i c.requires in
    let point = IsPartitionPoint-from_clause (λ (s : Shift). nat_lt s.index c.args.i) _ _ c.partition_point-count.ensures.partitioned parted (λ a r q k. search (rules, tests)) in
    c.last.ensures.value ∙ last_before (λ (s : Shift). nat_lt s.index c.args.i) c.args.shifts.now c.partition_point-count.result point c.partition_point-count.ensures.bound
