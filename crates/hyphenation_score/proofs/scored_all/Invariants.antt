use Rattle.std.proofs.Common.{◌≡◌, ◌≤◌, option_copied, map, take, length}
use Rattle.hyphenation_score.specs.Scoring.{own_change, score_of_winner, scored_pair}
use Rattle.hyphenation_score.proofs.scored_all.Given as goal

abbrev pub invariant-loop-winner : goal.invariant-loop-winner
invariant-loop-winner l = record {
  scores : map scored_pair l.all.items ≡ map (λ winner. score_of_winner own_change (option_copied winner)) (take l.winner-index l.winners);
  count : l.all.len ≡ l.winner-index;
  room : length l.winners ≤ l.all.cap;
}
