use Rattle.std.proofs.Common.{◌∙◌, ap, map}
use Rattle.hyphenation_score.specs.Scoring.{own_change, score_of_winner}
use Rattle.hyphenation_score.proofs.Counting.{counts_ended}
use Rattle.hyphenation_score.proofs.ScoredWinners.{scored_winners}
use Rattle.hyphenation_score.proofs.ValuesInOrder.{ok_then}
use Rattle.hyphenation_score.proofs.scores_from.Goals as goal

pub returns-clause-scores : goal.returns-clause-scores
returns-clause-scores c =
    ok_then c.scored_all.result _ _
    (λ v h. h ∙ scored_winners own_change c.compete_all.new.bests ∙ ap (map (score_of_winner own_change)) c.compete_all.ensures.winners)
    c.scored_all.ensures

pub returns-clause-counts : goal.returns-clause-counts
returns-clause-counts c = λ longest none. counts_ended _ _ _ _ _ _ (c.compete_all.ensures.counts longest none)
