use Rattle.std.proofs.Common.{◌≡◌, ◌++◌, map, drop}
use Rattle.libreoffice_files.specs.LibreOfficePatterns.{patterns_of}
use Rattle.libreoffice_files.specs.Private.Views.{line_view, keyed_view}
use Rattle.libreoffice_files.proofs.dic_patterns.patterns_of.Given as goal

abbrev pub invariant-loop-line : goal.invariant-loop-line
invariant-loop-line l =
    map keyed_view l.patterns.items ++ patterns_of (map line_view (drop l.line-index l.lines)) ≡ patterns_of (map line_view l.lines)
