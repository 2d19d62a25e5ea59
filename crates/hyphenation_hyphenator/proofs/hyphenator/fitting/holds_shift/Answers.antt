use Rattle.std.proofs.Common.{nat_lt, rules, tests}
use Rattle.std.proofs.lemmas.List.Sorted.{IsPartitionPoint-from_clause, IsPartitionedBy-ltb}
use Rattle.hyphenation_hyphenator.specs.declared.case_folding.Shift.{Shift}
use Rattle.hyphenation_hyphenator.proofs.ShiftOrder.{held_at, held_nowhere}
use Rattle.hyphenation_hyphenator.proofs.hyphenator.fitting.holds_shift.Goals as goal

pub returns-in-Some : goal.returns-in-Some
returns-in-Some c =
    let parted = IsPartitionedBy-ltb (λ (s : Shift). s.index) c.args.shifts.now c.args.begin c.requires in
    let point = IsPartitionPoint-from_clause (λ (s : Shift). nat_lt s.index c.args.begin) _ _ c.partition_point-first.ensures.partitioned parted (λ a r q k. search (rules, tests)) in
    let found = c.in-Some.ensures.lookup in
    held_at c.args.shifts.now c.args.begin c.args.end c.partition_point-first.result point c.in-Some.shift.now found.3.0 found.1 c.requires

pub returns-in-None : goal.returns-in-None
returns-in-None c =
    let parted = IsPartitionedBy-ltb (λ (s : Shift). s.index) c.args.shifts.now c.args.begin c.requires in
    let point = IsPartitionPoint-from_clause (λ (s : Shift). nat_lt s.index c.args.begin) _ _ c.partition_point-first.ensures.partitioned parted (λ a r q k. search (rules, tests)) in
    let found = c.in-None.ensures.lookup in
    held_nowhere c.args.shifts.now c.args.begin c.args.end c.partition_point-first.result point found.3
