use Rattle.std.proofs.Common.{◌≡◌, ◌∷◌, ◌++◌, filter, drop}
use Rattle.libreoffice_files.specs.LibreOfficePatterns.{is_within}
use Rattle.libreoffice_files.proofs.dic_patterns.forbidding.Given as goal

abbrev pub invariant-loop-value : goal.invariant-loop-value
invariant-loop-value l =
    l.values.items ++ filter (is_within l.len) (drop l.value-index l.old) ≡ record { place = 0; value = 8 } ∷ filter (is_within l.len) l.old
