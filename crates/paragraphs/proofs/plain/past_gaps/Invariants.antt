use Rattle.std.proofs.Common.{◌-◌, ◌≤◌, length}
use Rattle.paragraphs.specs.Private.Plain.{is_ascii_gap, EachBetween}
use Rattle.paragraphs.proofs.plain.past_gaps.Given as goal

-- The bytes so far are gaps.
abbrev pub invariant-bytes : goal.invariant-bytes
invariant-bytes l = (l.at ≤ length l.bytes) × EachBetween is_ascii_gap l.bytes 0 l.at

abbrev pub decreases-bytes : goal.decreases-bytes
decreases-bytes l = length l.bytes - l.at
