use Rattle.std.proofs.Common.{◌≡◌, map, take}
use Rattle.c_calls.specs.Numbered.{substitutions}
use Rattle.c_calls.proofs.numbered.substitutions.Given as goal

abbrev pub invariant-loop-item : goal.invariant-loop-item
invariant-loop-item g l = l.texts.items ≡ substitutions (map g.T.Numbered.meaning (take l.item-index l.items))
