use Rattle.std.proofs.Common.{◌≡◌, drop}
use Rattle.std.specs.List.{find}
use Rattle.libreoffice_files.specs.LibreOfficePatterns.{is_after_first}
use Rattle.libreoffice_files.proofs.change.value_after_first.Given as goal

abbrev pub invariant-loop-value : goal.invariant-loop-value
invariant-loop-value l = find (is_after_first l.range) (drop l.value-index l.values) ≡ find (is_after_first l.range) l.values
