use Rattle.std.proofs.Common.{◌≡◌, true, false, rules}
use Rattle.ucd_breaks.specs.WordBreak.{word_break}
use Rattle.unicode_segmentation.specs.Word.{is_ignored, significant}
use Rattle.unicode_segmentation.proofs.WordLemmas.{significant-ignored, significant-kept}
use Rattle.word_pieces.proofs.rules.last_significant.Goals as goal

pub returns-then-not-is_ignored-clause-value : goal.returns-then-not-is_ignored-clause-value
returns-then-not-is_ignored-clause-value c =
    let kept : is_ignored (word_break c.in-Some.c) ≡ false = cc in
    rw (c.loop-c.invariant.1, c.in-Some.ensures.0, significant-kept _ _ kept) c.for_char-value.ensures

pub returns-then-not-is_ignored-clause-rest : goal.returns-then-not-is_ignored-clause-rest
returns-then-not-is_ignored-clause-rest c =
    let kept : is_ignored (word_break c.in-Some.c) ≡ false = cc in
    rw (c.loop-c.invariant.1, c.in-Some.ensures.0, significant-kept _ _ kept)

pub loop-c-preserved : goal.loop-c-preserved
loop-c-preserved c =
    let ignored : is_ignored (word_break c.in-Some.c) ≡ true = cc in
    (search rules, rw (c.loop-c.invariant.1, c.in-Some.ensures.0, significant-ignored _ _ ignored))

pub returns-clause-value : goal.returns-clause-value
unfolding significant
returns-clause-value c = rw (c.loop-c.invariant.1, c.in_default.ensures.0)

pub returns-clause-rest : goal.returns-clause-rest
unfolding significant
returns-clause-rest c = rw (c.loop-c.invariant.1, c.in_default.ensures.0)
