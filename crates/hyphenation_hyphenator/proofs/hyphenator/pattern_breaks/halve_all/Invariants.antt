use Rattle.std.proofs.Common.{◌≡◌, ◌/◌, ◌++◌, map, take, drop}
use Rattle.hyphenation_hyphenator.proofs.hyphenator.pattern_breaks.halve_all.Given as goal

abbrev pub invariant-loop-rank : goal.invariant-loop-rank
invariant-loop-rank l = l.rank-items ≡ map (λ rank. rank / 2) (take l.rank-index l.fn.ranks) ++ drop l.rank-index l.fn.ranks
