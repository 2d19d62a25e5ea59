use Rattle.std.proofs.Common.{◌≡◌, ◌++◌, drop, flat_map}
use Rattle.explanations.specs.Private.Drawing.{scores_by}
use Rattle.explanations.specs.Notes.{score_note}
use Rattle.explanations.proofs.notes.scores_note.Given as goal

abbrev pub invariant-loop-winner : goal.invariant-loop-winner
invariant-loop-winner g l = l.note.items ++ flat_map score_note (scores_by g.C.Payload.change_of (drop l.winner-index l.winners)) ≡ l.initial.note.items ++ flat_map score_note (scores_by g.C.Payload.change_of l.winners)
