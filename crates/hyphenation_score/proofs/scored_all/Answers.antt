use Rattle.std.proofs.Common.{Option, Bor, option_copied, arith}
use Rattle.hyphenation_breaks.specs.Break.{Change}
use Rattle.hyphenation_breaks.specs.declared.entry.Entry.{Entry}
use Rattle.hyphenation_score.specs.Scoring.{own_change, score_of_winner, scored_pair}
use Rattle.hyphenation_score.proofs.ScoredWinners.{mapped_more}
use Rattle.hyphenation_score.proofs.scored_all.Goals as goal

pub loop-winner-preserved : goal.loop-winner-preserved
loop-winner-preserved c = record {
  scores = mapped_more scored_pair (λ (w : Option (Bor (Entry (Option Change)))). score_of_winner own_change (option_copied w)) c.args.winners.now c.loop-winner.winner-index c.winner-item.result c.loop-winner.all.items _ c.scored.result
      c.loop-winner-test.true c.winner-item.is c.loop-winner.invariant.scores c.scored.ensures c.push_reserved.ensures.items;
  count = omega (arith, c.push_reserved.ensures.len, c.loop-winner.invariant.count);
  room = omega (arith, c.push_reserved.ensures.capacity, c.loop-winner.invariant.room);
}
