use Rattle.std.proofs.Common.{◌≡◌, filter, drop, IfSome, IsCharBoundary}
use Rattle.std.specs.List.{last_or}
use Rattle.callers.specs.Room.{leaves_room, last_room}
use Rattle.callers.proofs.line_filler.last_room.Given as goal

abbrev pub invariant-loop-place : goal.invariant-loop-place
invariant-loop-place l =
    (last_or l.last (filter (leaves_room l.word l.columns) (drop l.place-index l.places)) ≡ last_room l.word l.columns l.places)
    × IfSome l.last (λ place. IsCharBoundary l.word place)
