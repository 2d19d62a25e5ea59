use Rattle.std.proofs.Common.{◌≡◌, ◌+◌, ◌-◌, ◌<◌, length, take}
use Rattle.std.specs.Prelude.{IsSome}
use Rattle.std.specs.List.{list_any, range_with_len}
use Rattle.hyphenation_trie.specs.Trie.{node_text, entries_of_key}
use Rattle.libreoffice_files.specs.Longest.{is_exceeded, hides_value}
use Rattle.libreoffice_files.proofs.longest.hides_value.Given as goal

abbrev pub invariant-loop-byte : goal.invariant-loop-byte
invariant-loop-byte g l = record {
  within : l.node < length l.automaton.texts;
  text : IsSome (entries_of_key l.automaton l.key) → node_text l.automaton l.node ≡ take l.byte-index l.key;
  rest : IsSome (entries_of_key l.automaton l.key) → hides_value (entries_of_key l.automaton) l.key
      ≡ list_any (λ len. is_exceeded (entries_of_key l.automaton) (take len l.key))
      (range_with_len (l.byte-index + 1) (length l.key - l.byte-index));
}
