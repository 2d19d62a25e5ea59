use Rattle.std.proofs.Common.{◌≡◌, ◌-◌, ◌<◌, length, slice_index}
use Rattle.ucd_breaks.specs.WordBreak.{word_break}
use Rattle.unicode_segmentation.specs.Word.{significant, starts_with_half_flag, is_word_break}
use Rattle.unicode_segmentation.specs.Segments.{chars_before}
use Rattle.unicode_segmentation.proofs.SegmentsLemmas.{IsWalk}
use Rattle.word_pieces.proofs.rules.first_end.Given as goal

abbrev pub invariant-chars : goal.invariant-chars
invariant-chars l =
    let before = chars_before l.text l.at in
    IsWalk is_word_break l.text l.start l.limit l.at × (0 < length before)
    × (l.last ≡ word_break (slice_index before 0)) × (l.half_flag ≡ starts_with_half_flag (significant before))

abbrev pub decreases-chars : goal.decreases-chars
decreases-chars l = l.limit - l.at
