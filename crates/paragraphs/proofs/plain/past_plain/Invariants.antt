use Rattle.std.proofs.Common.{◌-◌, ◌≤◌, length}
use Rattle.paragraphs.specs.Private.Plain.{is_plain, EachBetween}
use Rattle.paragraphs.proofs.plain.past_plain.Given as goal

-- The bytes so far are plain.
abbrev pub invariant-bytes : goal.invariant-bytes
invariant-bytes l = (l.place.at ≤ l.at) × (l.at ≤ length l.place.bytes.now) × EachBetween is_plain l.place.bytes.now l.place.at l.at

abbrev pub decreases-bytes : goal.decreases-bytes
decreases-bytes l = length l.place.bytes.now - l.at
