use Rattle.std.proofs.Common.{◌≡◌, ◌&&◌, take}
use Rattle.std.specs.Char.{is_ascii}
use Rattle.std.specs.List.{list_all}
use Rattle.c_calls.proofs.utf8.are_ascii_at_once.Given as goal

abbrev pub invariant-loop-at : goal.invariant-loop-at
invariant-loop-at g l = l.all ≡ (list_all is_ascii (take l.at l.first) && list_all is_ascii (take l.at l.last))
