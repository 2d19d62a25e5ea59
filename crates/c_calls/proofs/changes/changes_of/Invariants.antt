use Rattle.std.proofs.Common.{◌≡◌, map, take}
use Rattle.c_calls.specs.Dictionaries.{as_change}
use Rattle.c_calls.proofs.changes.changes_of.Given as goal

abbrev pub invariant-loop-b : goal.invariant-loop-b
invariant-loop-b g l = l.changes.items ≡ map as_change (map g.B.Break.meaning (take l.b-index l.word.breaks.items))
