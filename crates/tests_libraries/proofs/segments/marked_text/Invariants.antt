use Rattle.std.proofs.Common.{◌≡◌, ◌++◌}
use Rattle.std.specs.List.{concat}
use Rattle.std.specs.String.{string_bytes}
use Rattle.hyphenation_segments.specs.Segments.{marked_segments}
use Rattle.tests_libraries.proofs.segments.marked_text.Given as goal

abbrev pub invariant-loop-item : goal.invariant-loop-item
invariant-loop-item g l =
    string_bytes l.joined ++ concat (marked_segments l.item-iterator.1 (g.I.Texts.texts l.item-iterator.0)) ≡ concat (marked_segments l.fn.items.1 (g.I.Texts.texts l.fn.items.0))
