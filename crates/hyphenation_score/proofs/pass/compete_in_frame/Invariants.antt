use Rattle.std.proofs.Common.{◌+◌}
use Rattle.hyphenation_score.proofs.OnePassInvariant.{Passed}
use Rattle.hyphenation_score.proofs.pass.compete_in_frame.Given as goal

abbrev pub invariant-loop-at : goal.invariant-loop-at
invariant-loop-at g l = Passed g.S.Slot.meaning g.S.Slot.after l.automaton l.word l.fn.slots (l.at + 1) l.node l.slots l.fn.count.made l.fn.count.reported l.count.made l.count.reported
