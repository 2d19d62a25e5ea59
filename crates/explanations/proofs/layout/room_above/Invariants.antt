use Rattle.std.proofs.Common.{◌≡◌, drop, map}
use Rattle.explanations.specs.Columns.{with_room_above, with_room_for}
use Rattle.explanations.specs.Rows.{row_of}
use Rattle.explanations.proofs.layout.room_above.Given as goal

abbrev pub invariant-loop-row : goal.invariant-loop-row
invariant-loop-row g l = with_room_for l.values.items (map row_of (drop l.row-index l.rows)) ≡ with_room_above l.framed (map row_of l.rows)
