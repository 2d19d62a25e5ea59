use Rattle.std.proofs.Common.{◌≡◌, drop, false, map}
use Rattle.libreoffice_files.specs.Notes.{level_remarks}
use Rattle.libreoffice_files.specs.Private.Views.{line_view}
use Rattle.libreoffice_files.proofs.dic_notes.note_levels.Given as goal

abbrev pub invariant-loop-at : goal.invariant-loop-at
invariant-loop-at l = record {
  notes : l.notes.items ≡ l.initial.notes.items;
  levels : level_remarks l.before (map line_view (drop l.at l.lines)) ≡ level_remarks false (map line_view l.lines);
}
