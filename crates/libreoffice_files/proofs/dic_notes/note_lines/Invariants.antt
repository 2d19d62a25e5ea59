use Rattle.std.proofs.Common.{◌≡◌, drop, fold, map}
use Rattle.std.specs.List.{flat_map}
use Rattle.pattern_results.specs.Notes.{with_remark}
use Rattle.libreoffice_files.specs.Notes.{line_remarks}
use Rattle.libreoffice_files.specs.Private.Views.{line_view}
use Rattle.libreoffice_files.proofs.dic_notes.note_lines.Given as goal

abbrev pub invariant-loop-line : goal.invariant-loop-line
invariant-loop-line l =
    fold with_remark l.notes.items (flat_map line_remarks (map line_view (drop l.line-index l.lines)))
    ≡ fold with_remark l.initial.notes.items (flat_map line_remarks (map line_view l.lines))
