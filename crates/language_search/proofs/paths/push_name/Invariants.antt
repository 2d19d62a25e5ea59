use Rattle.std.proofs.Common.{◌≡◌, ◌++◌, map, take}
use Rattle.std.specs.String.{string_bytes}
use Rattle.hyphenation_breaks.specs.Borrowed.{texts_now}
use Rattle.language_search.specs.Paths.{paths_of_name}
use Rattle.language_search.proofs.paths.push_name.Given as goal

abbrev pub invariant-loop-folder : goal.invariant-loop-folder
invariant-loop-folder l = map string_bytes l.paths.items ≡ map string_bytes l.fn.paths.items ++ paths_of_name l.sought (texts_now (take l.folder-index l.folders)) l.name
