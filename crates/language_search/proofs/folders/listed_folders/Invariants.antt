use Rattle.std.proofs.Common.{◌≡◌, map, take}
use Rattle.std.specs.List.{flat_map}
use Rattle.std.specs.String.{string_bytes}
use Rattle.hyphenation_breaks.specs.Borrowed.{texts_now}
use Rattle.language_search.specs.Folders.{folder_if_any}
use Rattle.language_search.proofs.folders.listed_folders.Given as goal

abbrev pub invariant-loop-folder : goal.invariant-loop-folder
invariant-loop-folder l = map string_bytes l.folders.items ≡ flat_map folder_if_any (texts_now (take l.folder-index l.folder-items))
