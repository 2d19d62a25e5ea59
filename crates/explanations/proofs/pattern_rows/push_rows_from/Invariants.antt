use Rattle.std.proofs.Common.{◌≡◌, ◌+◌, ◌-◌, ◌<◌, ◌≤◌, length, map, slice_range}
use Rattle.hyphenation_trie.specs.Trie.{node_text, entries_of_key}
use Rattle.explanations.specs.Rows.{row_of}
use Rattle.explanations.specs.Private.Walking.{AreOccurrencesUpTo}
use Rattle.explanations.proofs.pattern_rows.push_rows_from.Given as goal

abbrev pub invariant-loop-at : goal.invariant-loop-at
invariant-loop-at g l = record {
  node : l.node < length l.automaton.texts;
  text : node_text l.automaton l.node ≡ slice_range l.framed l.start l.at;
  so_far : AreOccurrencesUpTo (entries_of_key l.automaton) l.framed l.start l.at (map row_of l.rows.items);
  made : l.count.made ≤ l.fn.count.made + (l.at - l.start);
  reported : l.count.reported ≤ l.fn.count.reported + (l.at - l.start);
}
