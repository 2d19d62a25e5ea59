use Rattle.std.proofs.Common.{◌≡◌, false, ◌∷◌, sym, ap, ap₂, ◌∙◌, arith}
use Rattle.std.specs.Str.{chars}
use Rattle.unicode_segmentation.specs.Word.{is_word_break}
use Rattle.unicode_segmentation.proofs.WordLemmas.{starts_with_half_flag-cons}
use Rattle.unicode_segmentation.specs.Segments.{breaks_at}
use Rattle.unicode_segmentation.proofs.SegmentsLemmas.{IsWalk-start, IsWalk-step, IsFirstEnd-at_end}
use Rattle.word_pieces.proofs.LetterRuns.{IsWordWalk-letters}
use Rattle.unicode_segmentation.proofs.TextLemmas.{reverse-chars_front}
use Rattle.word_pieces.proofs.rules.first_end.Goals as goal

pub chars-init : goal.chars-init
chars-init c =
    let h = c.char_at-first.ensures.is in
    let run = c.past_ascii_letters-at.ensures in
    IsWordWalk-letters _ c.utf8.text _ _ c.requires.limit _ _ _ _ (
      IsWalk-start _ _ c.utf8.text _ _ _ _ h c.char_at-first.ensures.within c.requires.limit,
      rw h.before (omega arith),
      rw h.before c.for_char-last.ensures,
      rw (h.before, starts_with_half_flag-cons, c.step-half_flag.ensures, c.for_char-last.ensures, c.requires.flag),
    ) run.within run.letters run.all

pub chars-preserved : goal.chars-preserved
chars-preserved c =
    let h = c.char_at-next.ensures.is in
    let joined : breaks_at is_word_break c.args.text.now c.chars.at ≡ false =
    ap₂ is_word_break (reverse-chars_front _ _ _ c.range.ensures.value)
    (h.from ∙ ap (λ t. c.char_at-next.result.0 ∷ chars t) (sym c.range_from.ensures.value))
    ∙ sym c.if-is_break.ensures in
    let run = c.past_ascii_letters-at-in-chars.ensures in
    IsWordWalk-letters _ c.utf8.text _ _ c.requires.limit _ _ _ _ (
      IsWalk-step _ _ c.utf8.text _ _ _ _ _ c.chars.invariant.0 joined h c.char_at-next.ensures.within c.requires.limit,
      rw h.before (omega arith),
      rw h.before c.for_char-right.ensures,
      rw (h.before, starts_with_half_flag-cons, c.step-half_flag-in-chars.ensures, c.for_char-right.ensures, c.chars.invariant.3),
    ) run.within run.letters run.all

pub returns-after-chars-clause-end : goal.returns-after-chars-clause-end
returns-after-chars-clause-end c = IsFirstEnd-at_end _ _ c.utf8.text _ _ _ c.chars.invariant.0 c.chars-test.false
