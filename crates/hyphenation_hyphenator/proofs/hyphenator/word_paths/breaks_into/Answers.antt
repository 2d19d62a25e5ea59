use Rattle.std.proofs.Common.{sym, subst}
use Rattle.hyphenation_segments.specs.Fits.{Fits}
use Rattle.hyphenation_hyphenator.proofs.FittedBreaks.{breaks_fit}
use Rattle.hyphenation_hyphenator.proofs.hyphenator.word_paths.breaks_into.Goals as goal

pub returns-in-Ok-clause-fits : goal.returns-in-Ok-clause-fits
returns-in-Ok-clause-fits g c =
    let word = c.args.word.now in
    let fit = breaks_fit g.F.Payload.Payload.change_of g.F.Listing.Break.meaning c.args.dictionary.now word c.value_is_borne.ensures c.winner_is_first.ensures c.invariant.ensures c.utf8.word in
    subst (Fits word) (sym c.in-Ok.ensures) fit
