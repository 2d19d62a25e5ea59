use Rattle.std.proofs.Common.{sym, subst}
use Rattle.hyphenation_segments.specs.Fits.{Fits}
use Rattle.hyphenation_hyphenator.proofs.FittedBreaks.{breaks_fit, opportunities_keep}
use Rattle.hyphenation_hyphenator.proofs.hyphenator.word_paths.breaks.Goals as goal

pub returns-clause-fits : goal.returns-clause-fits
returns-clause-fits g c =
    let word = c.args.word.now in
    let fit = breaks_fit g.F.Payload.Payload.change_of g.F.Listing.Break.meaning c.args.dictionary.now word c.value_is_borne.ensures c.winner_is_first.ensures c.invariant.ensures c.utf8.word in
    subst (Fits word) (sym c.in_ok-breaks_by_path.ensures) fit

pub returns-clause-ranges : goal.returns-clause-ranges
returns-clause-ranges g c =
    opportunities_keep g.F.Payload.Payload.change_of g.F.Listing.Break.meaning c.args.dictionary.now c.args.word.now c.value_is_borne.ensures c.winner_is_first.ensures c.invariant.ensures c.utf8.word
