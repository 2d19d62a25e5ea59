use Rattle.std.proofs.Common.{◌-◌, ◌≤◌, length}
use Rattle.std.specs.Char.{is_ascii_alphabetic}
use Rattle.paragraphs.specs.Private.Plain.{EachBetween}
use Rattle.paragraphs.proofs.plain.past_letters.Given as goal

-- The bytes so far are letters.
abbrev pub invariant-bytes : goal.invariant-bytes
invariant-bytes l = (l.place.at ≤ l.at) × (l.at ≤ length l.place.bytes.now) × EachBetween is_ascii_alphabetic l.place.bytes.now l.place.at l.at

abbrev pub decreases-bytes : goal.decreases-bytes
decreases-bytes l = length l.place.bytes.now - l.at
