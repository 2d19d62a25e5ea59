use Rattle.std.proofs.Common.{◌≡◌, drop}
use Rattle.std.specs.List.{find}
use Rattle.libreoffice_files.specs.LibreOfficePatterns.{is_odd_in}
use Rattle.libreoffice_files.proofs.change.first_odd.Given as goal

abbrev pub invariant-loop-value : goal.invariant-loop-value
invariant-loop-value l = find (is_odd_in l.range) (drop l.value-index l.values) ≡ find (is_odd_in l.range) l.values
