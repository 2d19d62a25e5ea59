use Rattle.std.proofs.Common.{◌≡◌, fold, map, drop}
use Rattle.libreoffice_files.specs.LibreOfficeLines.{with_line, nothing_set}
use Rattle.libreoffice_files.specs.Private.Views.{line_view, settings_view}
use Rattle.libreoffice_files.proofs.lines.settings_of.Given as goal

abbrev pub invariant-loop-line : goal.invariant-loop-line
invariant-loop-line l =
    fold with_line (settings_view l.settings) (map line_view (drop l.line-index l.lines)) ≡ fold with_line nothing_set (map line_view l.lines)
