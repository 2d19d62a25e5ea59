use Rattle.std.proofs.Common.{◌≡◌, ◌-◌, take}
use Rattle.std.specs.List.{sum_by}
use Rattle.line_division.specs.Lines.{joined_width}
use Rattle.paragraphs.proofs.full_lines.room_after.Given as goal

-- The room that is left after the stretches so far.
abbrev pub invariant-loop-stretch : goal.invariant-loop-stretch
invariant-loop-stretch l = l.left ≡ l.room - sum_by joined_width (take l.stretch-index l.stretches)
