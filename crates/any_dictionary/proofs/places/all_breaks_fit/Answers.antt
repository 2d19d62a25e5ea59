use Rattle.any_dictionary.proofs.PlainPlaces.{plain_ascend}
use Rattle.any_dictionary.proofs.places.all_breaks_fit.Goals as goal

pub returns-clause-places : goal.returns-clause-places
returns-clause-places g c =
    λ word u. plain_ascend word 0 (g.H.Hyphenator.breaks_of c.args.dictionary.now word) (c.breaks_fit.ensures.ascend word u)
