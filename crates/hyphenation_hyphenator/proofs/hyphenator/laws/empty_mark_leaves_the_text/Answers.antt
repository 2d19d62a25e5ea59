use Rattle.std.proofs.Common.{subst}
use Rattle.hyphenation_breaks.specs.Break.{plain_break}
use Rattle.hyphenation_segments.specs.Fits.{Fits}
use Rattle.hyphenation_hyphenator.specs.Opportunities.{no_change, rules_of, all_breaks_of}
use Rattle.hyphenation_hyphenator.proofs.FittedBreaks.{breaks_fit}
use Rattle.hyphenation_hyphenator.proofs.EmptyMark.{text_stays}
use Rattle.hyphenation_hyphenator.proofs.PlainBreaks.{breaks_plain, fitted_alike}
use Rattle.hyphenation_hyphenator.proofs.hyphenator.laws.empty_mark_leaves_the_text.Goals as goal

pub returns : goal.returns
returns c = λ text u.
    let dictionary = c.args.dictionary.now in
    let kept = c.invariant.ensures in
    text_stays (all_breaks_of (rules_of no_change plain_break dictionary)) c.pieces_are_slices.ensures.slices c.pieces_are_slices.ensures.join c.segments_join.ensures
    (λ word v. subst (Fits word) (fitted_alike dictionary word c.value_is_borne.ensures kept v) (breaks_fit no_change plain_break dictionary word c.value_is_borne.ensures c.winner_is_first.ensures kept v))
    (breaks_plain dictionary) text u
