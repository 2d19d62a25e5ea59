use Rattle.std.proofs.Common.{ℕ, ◌+◌, ◌*◌, ◌≤◌, length, map}
use Rattle.hyphenation_trie.specs.Trie.{entries_of_key}
use Rattle.explanations.specs.Rows.{row_of, NoKeyIsLonger}
use Rattle.explanations.specs.Private.Walking.{AreOccurrencesUpTo}
use Rattle.explanations.proofs.pattern_rows.rows_in.Given as goal

abbrev pub invariant-loop-start : goal.invariant-loop-start
invariant-loop-start g l = record {
  so_far : AreOccurrencesUpTo (entries_of_key l.automaton) l.framed l.start l.start (map row_of l.rows.items);
  made : l.count.made ≤ l.fn.count.made + l.start * (2 * length l.framed + 2);
  by_longest : (longest : ℕ) → NoKeyIsLonger (entries_of_key l.automaton) longest → l.count.made ≤ l.fn.count.made + l.start * (2 * longest + 2);
  reported : l.count.reported ≤ l.fn.count.reported + l.start * length l.framed;
}
