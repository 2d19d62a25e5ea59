use Rattle.std.proofs.Common.{◌≡◌, map, take}
use Rattle.callers.specs.Discretionaries.{parts_at, parts_of}
use Rattle.callers.proofs.discretionaries.discretionaries.Given as goal

abbrev pub invariant-loop-b : goal.invariant-loop-b
invariant-loop-b g l =
    map parts_of l.all.items
    ≡ map (parts_at l.hyphen l.word.text.now) (map g.B.Break.meaning (take l.b-index l.word.breaks.items))
