use Rattle.std.proofs.Common.{◌≡◌, map, drop}
use Rattle.std.specs.Prelude.{option_map}
use Rattle.std.specs.Option.{option_or}
use Rattle.libreoffice_files.specs.LibreOfficePatterns.{last_of}
use Rattle.libreoffice_files.specs.Private.Views.{spelt_view, keyed_view}
use Rattle.libreoffice_files.proofs.dic_patterns.last_of.Given as goal

abbrev pub invariant-loop-pattern : goal.invariant-loop-pattern
invariant-loop-pattern l =
    option_or (last_of l.key (map keyed_view (drop l.pattern-index l.patterns))) (option_map (λ pattern. spelt_view pattern.now) l.last)
    ≡ last_of l.key (map keyed_view l.patterns)
