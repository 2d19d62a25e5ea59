use Rattle.std.proofs.Common.{◌≡◌, map, take}
use Rattle.std.specs.List.{flat_map}
use Rattle.std.specs.String.{string_bytes}
use Rattle.hyphenation_breaks.specs.Borrowed.{texts_now}
use Rattle.language_search.specs.Paths.{paths_by_code}
use Rattle.language_search.proofs.paths.paths_by_tag.Given as goal

abbrev pub invariant-loop-language : goal.invariant-loop-language
invariant-loop-language l =
    map string_bytes l.paths.items ≡ flat_map (paths_by_code l.sought (texts_now l.folders)) (take l.language-index l.language-items)
