use Rattle.std.proofs.Common.{◌≡◌, map, drop}
use Rattle.libreoffice_files.specs.LibreOfficeLines.{line_fault}
use Rattle.libreoffice_files.specs.Private.Views.{line_view}
use Rattle.libreoffice_files.proofs.lines.line_fault.Given as goal

abbrev pub invariant-loop-line : goal.invariant-loop-line
invariant-loop-line l = line_fault (map line_view (drop l.line-index l.lines)) ≡ line_fault (map line_view l.lines)
