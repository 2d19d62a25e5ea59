use Rattle.std.proofs.Common.{◌≡◌, ◌++◌, map, take, drop}
use Rattle.hyphenation_hyphenator.specs.Private.Opportunities.{realigned_break}
use Rattle.hyphenation_hyphenator.proofs.hyphenator.word_paths.realign_all.Given as goal

abbrev pub invariant-loop-b : goal.invariant-loop-b
invariant-loop-b g l = map g.F.Break.meaning l.b-items ≡ map (realigned_break l.shifts) (take l.b-index (map g.F.Break.meaning l.fn.breaks)) ++ drop l.b-index (map g.F.Break.meaning l.fn.breaks)
