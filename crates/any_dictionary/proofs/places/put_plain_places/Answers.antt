use Rattle.std.proofs.Common.{◌∙◌, ap, map, sym, subst, IsTrue}
use Rattle.std.proofs.lemmas.Result.{on_ok_weaker}
use Rattle.hyphenation_breaks.specs.Break.{ascend_on}
use Rattle.any_dictionary.specs.Dictionaries.{plain_places}
use Rattle.any_dictionary.proofs.places.put_plain_places.Goals as goal

pub returns-clause-fit : goal.returns-clause-fit
returns-clause-fit g c =
    let word = c.args.word.now in
    on_ok_weaker c.plain_places_of.result
    (λ e. (c.plain_breaks_fit_where_ascending.ensures word c.plain_places_of.new.places.items).1
    (subst (λ places. IsTrue (ascend_on word 0 places)) (sym (e ∙ ap plain_places (ap (map g.H.Opportunity.Break.meaning) c.deref.ensures.value ∙ c.in_ok-breaks.ensures.breaks)))
    (c.all_breaks_fit.ensures.places word c.utf8.word)))
    c.plain_places_of.ensures
