use Rattle.std.proofs.Common.{◌≡◌, ◌++◌, length}
use Rattle.pattern_results.specs.Texts.{letters}
use Rattle.libreoffice_files.specs.LibreOfficePatterns.{last_values}
use Rattle.libreoffice_files.proofs.dic_patterns.spelling_of.Given as goal

abbrev pub invariant-loop-byte : goal.invariant-loop-byte
invariant-loop-byte l = record {
  letters : l.key.items ++ letters l.rest ≡ letters l.body;
  values : l.values.items ++ last_values (length l.key.items) l.rest ≡ last_values 0 l.body;
}

abbrev pub decreases-loop-byte : goal.decreases-loop-byte
decreases-loop-byte l = length l.rest
