use Rattle.std.proofs.Common.{◌≡◌, map, take}
use Rattle.c_calls.specs.Dictionaries.{texts_of}
use Rattle.c_calls.proofs.changes.texts_of.Given as goal

abbrev pub invariant-loop-b : goal.invariant-loop-b
invariant-loop-b g l = l.texts.items ≡ texts_of (map g.B.Break.meaning (take l.b-index l.word.breaks.items))
