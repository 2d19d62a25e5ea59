use Rattle.std.proofs.Common.{◌≡◌, ◌++◌}
use Rattle.std.specs.List.{flat_map}
use Rattle.std.specs.String.{string_bytes}
use Rattle.unicode_segmentation.specs.Iter.{word_bounds_left}
use Rattle.unicode_segmentation.specs.Word.{word_bounds}
use Rattle.callers.specs.SoftHyphens.{with_soft_hyphens}
use Rattle.callers.proofs.soft_hyphens.with_soft_hyphens.Given as goal

abbrev pub invariant-loop-piece : goal.invariant-loop-piece
invariant-loop-piece g l =
    string_bytes l.page ++ flat_map (with_soft_hyphens (g.H.Hyphenator.breaks_of l.dictionary)) (word_bounds_left l.piece-iterator)
    ≡ flat_map (with_soft_hyphens (g.H.Hyphenator.breaks_of l.dictionary)) (word_bounds l.text)
