use Rattle.std.proofs.Common.{◌≡◌, ◌++◌, drop}
use Rattle.libreoffice_files.specs.Notes.{plain_entries}
use Rattle.libreoffice_files.proofs.dic_notes.plain_entries.Given as goal

abbrev pub invariant-loop-value : goal.invariant-loop-value
invariant-loop-value l = l.entries.items ++ plain_entries (drop l.value-index l.values) ≡ plain_entries l.values
