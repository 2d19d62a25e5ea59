use Rattle.std.proofs.Common.{◌≡◌, drop, fold, map}
use Rattle.hyphenation_trie.specs.Trie.{entries_of_key}
use Rattle.pattern_results.specs.Notes.{with_remark}
use Rattle.libreoffice_files.specs.Notes.{all_kept_remarks, keys_of, no_keys, with_pattern}
use Rattle.libreoffice_files.specs.Private.Views.{as_on_line}
use Rattle.libreoffice_files.proofs.dic_notes.keys_noted.Given as goal

abbrev pub invariant-loop-one : goal.invariant-loop-one
invariant-loop-one l = record {
  noted : fold with_remark l.notes.items (all_kept_remarks (entries_of_key l.keys) (map as_on_line (drop l.one-index l.patterns)))
      ≡ fold with_remark l.initial.notes.items (all_kept_remarks no_keys (map as_on_line l.patterns));
  keys : fold with_pattern (entries_of_key l.keys) (map as_on_line (drop l.one-index l.patterns)) ≡ keys_of (map as_on_line l.patterns);
}
