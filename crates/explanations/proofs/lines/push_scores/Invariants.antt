use Rattle.std.proofs.Common.{◌≡◌, ◌+◌, ◌++◌, drop}
use Rattle.explanations.specs.Private.Drawing.{scores_by}
use Rattle.explanations.specs.Lines.{score_fields}
use Rattle.explanations.proofs.lines.push_scores.Given as goal

abbrev pub invariant-loop-index : goal.invariant-loop-index
invariant-loop-index g l = l.text.items ++ score_fields (l.index + 1) (scores_by g.C.Payload.change_of (drop l.index l.winners)) ≡ l.initial.text.items ++ score_fields 1 (scores_by g.C.Payload.change_of l.winners)
