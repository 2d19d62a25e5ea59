use Rattle.std.proofs.Common.{◌-◌, length}
use Rattle.hyphenation_hyphenator.proofs.InPlace.{FoldedTo}
use Rattle.hyphenation_hyphenator.proofs.case_folding.fold_in_turn.Given as goal

abbrev pub invariant-loop-at : goal.invariant-loop-at
invariant-loop-at l = FoldedTo l.bytes l.folded l.at

abbrev pub decreases-loop-at : goal.decreases-loop-at
decreases-loop-at l = length l.bytes - l.at
