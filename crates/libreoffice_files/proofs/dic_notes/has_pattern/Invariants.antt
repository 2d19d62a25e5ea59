use Rattle.std.proofs.Common.{◌≡◌, drop, map}
use Rattle.std.specs.List.{list_any}
use Rattle.libreoffice_files.specs.LibreOffice.{is_pattern}
use Rattle.libreoffice_files.specs.Private.Views.{line_view}
use Rattle.libreoffice_files.proofs.dic_notes.has_pattern.Given as goal

abbrev pub invariant-loop-line : goal.invariant-loop-line
invariant-loop-line l =
    list_any (λ one. is_pattern one.kind) (map line_view (drop l.line-index l.lines)) ≡ list_any (λ one. is_pattern one.kind) (map line_view l.lines)
