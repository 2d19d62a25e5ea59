use Rattle.std.proofs.Common.{◌≡◌, fold, map, drop}
use Rattle.std.specs.Str.{trim}
use Rattle.libreoffice_files.specs.LibreOfficePatterns.{with_forbidden}
use Rattle.libreoffice_files.specs.Private.Views.{keyed_view}
use Rattle.libreoffice_files.proofs.dic_patterns.forbid_all.Given as goal

abbrev pub invariant-loop-text : goal.invariant-loop-text
invariant-loop-text l =
    fold with_forbidden (map keyed_view l.patterns.items) (map trim (map (λ text. text.now) (drop l.text-index l.text-items)))
    ≡ fold with_forbidden (map keyed_view l.initial.patterns.items) (map trim (map (λ text. text.now) l.text-items))
