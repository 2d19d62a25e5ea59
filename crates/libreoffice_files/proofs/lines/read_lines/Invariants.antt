use Rattle.std.proofs.Common.{◌≡◌, ◌+◌, ◌++◌, map, drop}
use Rattle.libreoffice_files.specs.LibreOfficeLines.{lines_from}
use Rattle.libreoffice_files.specs.Private.Views.{line_view}
use Rattle.libreoffice_files.proofs.lines.read_lines.Given as goal

abbrev pub invariant-loop-line : goal.invariant-loop-line
invariant-loop-line l = record {
  number : l.number ≡ l.first + l.line-index;
  said : map line_view l.read.items ++ lines_from l.number (map (λ line. line.now) (drop l.line-index l.lines)) ≡ lines_from l.first (map (λ line. line.now) l.lines);
}
