use Rattle.std.proofs.Common.{◌≡◌, drop, fold, map}
use Rattle.std.specs.List.{flat_map}
use Rattle.pattern_results.specs.Notes.{with_remark}
use Rattle.libreoffice_files.specs.Notes.{loss_remarks}
use Rattle.libreoffice_files.specs.Private.Views.{as_on_line}
use Rattle.libreoffice_files.proofs.dic_notes.note_losses.Given as goal

abbrev pub invariant-loop-one : goal.invariant-loop-one
invariant-loop-one g l =
    fold with_remark l.notes.items (flat_map (loss_remarks g.C.Payload.change_of g.C.Payload.payload_of) (map as_on_line (drop l.one-index l.patterns)))
    ≡ fold with_remark l.initial.notes.items (flat_map (loss_remarks g.C.Payload.change_of g.C.Payload.payload_of) (map as_on_line l.patterns))
