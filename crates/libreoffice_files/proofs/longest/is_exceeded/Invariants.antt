use Rattle.std.proofs.Common.{◌≡◌, ◌-◌, ◌<◌, length}
use Rattle.std.specs.Prelude.{IsSome}
use Rattle.std.specs.List.{list_any, range_with_len}
use Rattle.hyphenation_trie.specs.Trie.{node_text, entries_of_key}
use Rattle.hyphenation_trie.specs.Links.{EndsWith}
use Rattle.libreoffice_files.specs.Longest.{is_exceeded, is_exceeded_from}
use Rattle.libreoffice_files.proofs.longest.is_exceeded.Given as goal

abbrev pub invariant-loop-ending : goal.invariant-loop-ending
invariant-loop-ending g l = record {
  within : l.ending < length l.automaton.texts;
  shorter : length (node_text l.automaton l.ending) < length (node_text l.automaton l.node);
  ends : EndsWith (node_text l.automaton l.node) (node_text l.automaton l.ending);
  key : 0 < l.ending → IsSome (entries_of_key l.automaton (node_text l.automaton l.ending));
  rest : is_exceeded (entries_of_key l.automaton) (node_text l.automaton l.node)
      ≡ list_any (λ start. is_exceeded_from (entries_of_key l.automaton) (node_text l.automaton l.node) start)
      (range_with_len (length (node_text l.automaton l.node) - length (node_text l.automaton l.ending)) (length (node_text l.automaton l.ending)));
}

abbrev pub decreases-loop-ending : goal.decreases-loop-ending
decreases-loop-ending g l = length (node_text l.automaton l.ending)
