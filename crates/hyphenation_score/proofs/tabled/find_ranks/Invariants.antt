use Rattle.std.proofs.Common.{◌≡◌, ◌+◌, length}
use Rattle.hyphenation_trie.specs.Trie.{entries_of_key}
use Rattle.hyphenation_score.specs.Scoring.{frame}
use Rattle.hyphenation_score.proofs.TabledPass.{Passed}
use Rattle.hyphenation_score.proofs.tabled.find_ranks.Given as goal

abbrev pub invariant-loop-at : goal.invariant-loop-at
invariant-loop-at g l = record {
  len : length l.list ≡ length l.fn.list;
  passed : Passed g.C.Payload.rank_of (entries_of_key l.automaton) l.table (frame l.word) (l.at + 1) l.start l.last l.list l.fn.count.reported l.count.reported;
  made : l.count.made ≡ l.fn.count.made + (l.at + 1);
}
