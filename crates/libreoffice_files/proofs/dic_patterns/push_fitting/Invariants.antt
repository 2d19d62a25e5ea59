use Rattle.std.proofs.Common.{◌≡◌, map, drop}
use Rattle.std.specs.List.{filter_map}
use Rattle.libreoffice_files.specs.LibreOffice.{kept_in}
use Rattle.libreoffice_files.specs.Private.Views.{with_keys}
use Rattle.libreoffice_files.specs.Private.Views.{keyed_view}
use Rattle.libreoffice_files.proofs.dic_patterns.push_fitting.Given as goal

abbrev pub invariant-loop-keyed : goal.invariant-loop-keyed
invariant-loop-keyed g l =
    with_keys l.parts (filter_map (kept_in g.C.Payload.change_of g.C.Payload.payload_of) (map keyed_view (drop l.keyed-index l.patterns)))
    ≡ with_keys l.initial.parts (filter_map (kept_in g.C.Payload.change_of g.C.Payload.payload_of) (map keyed_view l.patterns))
