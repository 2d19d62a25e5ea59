use Rattle.std.proofs.Common.{◌≡◌, ◌≤◌, ◌-◌, drop, length}
use Rattle.hyphenation_hyphenator.specs.Private.CommonLowercase.{are_common_lowercase}
use Rattle.hyphenation_hyphenator.proofs.case_folding.are_common_lowercase_in_turn.Given as goal

abbrev pub invariant-loop-at : goal.invariant-loop-at
invariant-loop-at l = record {
  within : l.at ≤ length l.bytes;
  same : are_common_lowercase l.bytes ≡ are_common_lowercase (drop l.at l.bytes);
}

abbrev pub decreases-loop-at : goal.decreases-loop-at
decreases-loop-at l = length l.bytes - l.at
