use Rattle.std.proofs.Common.{◌≡◌, map, take}
use Rattle.c_calls.specs.Numbered.{as_numbered}
use Rattle.c_calls.proofs.numbered.changes_of.Given as goal

abbrev pub invariant-loop-item : goal.invariant-loop-item
invariant-loop-item g l = l.changes.items ≡ map as_numbered (map g.T.Numbered.meaning (take l.item-index l.items))
