use Rattle.std.proofs.Common.{◌≡◌, true, false, rules}
use Rattle.ucd_breaks.specs.WordBreak.{word_break}
use Rattle.unicode_segmentation.specs.Word.{is_ignored, significant}
use Rattle.unicode_segmentation.proofs.WordLemmas.{significant-ignored, significant-kept}
use Rattle.word_pieces.proofs.rules.first_significant.Goals as goal

pub returns-then-not-is_ignored : goal.returns-then-not-is_ignored
returns-then-not-is_ignored c =
    let kept : is_ignored (word_break c.in-Some.c) ≡ false = cc in
    rw (c.loop-c.invariant.1, c.in-Some.ensures.0, significant-kept _ _ kept) c.for_char-value.ensures

pub loop-c-preserved : goal.loop-c-preserved
loop-c-preserved c =
    let ignored : is_ignored (word_break c.in-Some.c) ≡ true = cc in
    (search rules, rw (c.loop-c.invariant.1, c.in-Some.ensures.0, significant-ignored _ _ ignored))

pub returns : goal.returns
unfolding significant
returns c = rw (c.loop-c.invariant.1, c.in_default.ensures.0)
