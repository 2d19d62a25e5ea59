use Rattle.std.proofs.Common.{◌≡◌, map, take}
use Rattle.libreoffice_files.specs.Changes.{carried_entry}
use Rattle.libreoffice_files.specs.LibreOffice.{change_there}
use Rattle.libreoffice_files.specs.Private.Views.{spelt_view, has_small_values}
use Rattle.libreoffice_files.proofs.dic_patterns.entries_of.Given as goal

abbrev pub invariant-loop-value : goal.invariant-loop-value
invariant-loop-value g l =
    has_small_values (spelt_view l.pattern)
    → l.entries.items ≡ map (λ v. carried_entry g.C.Payload.change_of g.C.Payload.payload_of (record { place = v.place; value = v.value; change = change_there l.pattern.change v.place })) (take l.value-index l.pattern.values.items)
