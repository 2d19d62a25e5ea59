use Rattle.std.proofs.Common.{◌≡◌, ◌++◌, map, drop}
use Rattle.libreoffice_files.specs.Notes.{patterns_on}
use Rattle.libreoffice_files.specs.Private.Views.{as_on_line, line_view}
use Rattle.libreoffice_files.proofs.dic_notes.patterns_on.Given as goal

abbrev pub invariant-loop-line : goal.invariant-loop-line
invariant-loop-line l =
    map as_on_line l.patterns.items ++ patterns_on (map line_view (drop l.line-index l.lines)) ≡ patterns_on (map line_view l.lines)
