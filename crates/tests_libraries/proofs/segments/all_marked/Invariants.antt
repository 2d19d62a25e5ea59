use Rattle.std.proofs.Common.{◌≡◌, ◌++◌, map, codes}
use Rattle.std.specs.String.{string_bytes}
use Rattle.hyphenation_breaks.specs.Break.{plain_break}
use Rattle.hyphenation_segments.specs.Segments.{segments, marked_segments}
use Rattle.tests_libraries.proofs.segments.all_marked.Given as goal

abbrev pub invariant-loop-item : goal.invariant-loop-item
invariant-loop-item l = map string_bytes l.list.items ++ marked_segments l.item-iterator.1 l.item-iterator.0 ≡ marked_segments (codes "-") (segments l.fn.word.text.now (map plain_break l.fn.word.breaks.items))
