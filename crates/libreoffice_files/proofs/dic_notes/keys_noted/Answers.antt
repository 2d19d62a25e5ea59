use Rattle.std.proofs.Common.{◌∙◌, ◌+◌, List, ap, drop, fold, map, sym}
use Rattle.hyphenation_breaks.specs.Dictionary.{Patterns}
use Rattle.hyphenation_trie.specs.Trie.{entries_of_key}
use Rattle.libreoffice_files.specs.Notes as notes
use Rattle.libreoffice_files.specs.Notes.{all_kept_remarks, kept_remarks, no_keys, with_pattern}
use Rattle.libreoffice_files.specs.Private.Views.{as_on_line}
use Rattle.pattern_results.specs.Notes.{with_remark}
use Rattle.libreoffice_files.proofs.Noting.{noted_next, one_and_after}
use Rattle.libreoffice_files.proofs.dic_notes.keys_noted.Goals as goal

pub loop-one-preserved : goal.loop-one-preserved
loop-one-preserved c =
    let patterns = c.args.patterns.now in
    let i = c.loop-one.one-index in
    let one = c.one-item.result in
    let before : Patterns (Unit {0}) = entries_of_key c.loop-one.keys in
    let rest : List notes.LinePattern = map as_on_line (drop (i + 1) patterns) in
    let split = one_and_after patterns i one c.loop-one-test.true c.one-item.is in
    let added = c.in_ok-note_kept.ensures.added in
    record {
      noted =
          ap (λ (keys : Patterns (Unit {0})). fold with_remark c.note_kept.new.notes.items (all_kept_remarks keys rest)) added
          ∙ noted_next c.loop-one.notes.items c.note_kept.new.notes.items (fold with_remark c.args.notes.now.items (all_kept_remarks no_keys (map as_on_line patterns)))
          (kept_remarks before (as_on_line one)) (all_kept_remarks (with_pattern before (as_on_line one)) rest) (all_kept_remarks before (map as_on_line (drop i patterns)))
          c.in_ok-note_kept.ensures.noted c.loop-one.invariant.noted (ap (all_kept_remarks before) split);
      keys =
          ap (λ (keys : Patterns (Unit {0})). fold with_pattern keys rest) added
          ∙ sym (ap (fold with_pattern before) split)
          ∙ c.loop-one.invariant.keys;
    }
