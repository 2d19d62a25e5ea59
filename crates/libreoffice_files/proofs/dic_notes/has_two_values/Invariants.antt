use Rattle.std.proofs.Common.{◌≡◌, length}
use Rattle.libreoffice_files.specs.Notes.{has_two_values}
use Rattle.libreoffice_files.proofs.dic_notes.has_two_values.Given as goal

abbrev pub invariant-loop-byte : goal.invariant-loop-byte
invariant-loop-byte l = has_two_values l.rest ≡ has_two_values l.body

abbrev pub decreases-loop-byte : goal.decreases-loop-byte
decreases-loop-byte l = length l.rest
