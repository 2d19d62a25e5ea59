use Rattle.std.proofs.Common.{arith}
use Rattle.std.proofs.lemmas.Grind.{common_steps}
use Rattle.hyphenation_segments.proofs.iter.pushing.push_break.Goals as goal

pub range-requires-2-clause-end_boundary : goal.range-requires-2-clause-end_boundary
range-requires-2-clause-end_boundary g c = grind (arith, common_steps)

pub range-requires-2-clause-start_boundary : goal.range-requires-2-clause-start_boundary
range-requires-2-clause-start_boundary g c = grind (arith, common_steps)

pub range-requires-2-clause-start_le_end : goal.range-requires-2-clause-start_le_end
range-requires-2-clause-start_le_end g c = grind (arith, common_steps)

pub unwrap-begin-requires : goal.unwrap-begin-requires
unwrap-begin-requires g c = grind (arith, common_steps)

pub returns-in_err-push_str-clause-begins_as_before : goal.returns-in_err-push_str-clause-begins_as_before
returns-in_err-push_str-clause-begins_as_before g c = grind (arith, common_steps)

pub returns-in_err-push_str-2-clause-begins_as_before : goal.returns-in_err-push_str-2-clause-begins_as_before
returns-in_err-push_str-2-clause-begins_as_before g c = grind (arith, common_steps)

pub returns-in_err-push_str-3-clause-begins_as_before : goal.returns-in_err-push_str-3-clause-begins_as_before
returns-in_err-push_str-3-clause-begins_as_before g c = grind (arith, common_steps)

pub returns-in_err-push_str-4-clause-begins_as_before : goal.returns-in_err-push_str-4-clause-begins_as_before
returns-in_err-push_str-4-clause-begins_as_before g c = grind (arith, common_steps)

pub returns-clause-appended : goal.returns-clause-appended
returns-clause-appended g c = grind (arith, common_steps)

pub returns-clause-begins_as_before : goal.returns-clause-begins_as_before
returns-clause-begins_as_before g c = grind (arith, common_steps)

pub returns-clause-range_end : goal.returns-clause-range_end
returns-clause-range_end g c = grind (arith, common_steps)
