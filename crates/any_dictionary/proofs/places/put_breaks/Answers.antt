use Rattle.std.proofs.Common.{◌∙◌, ap, sym}
use Rattle.std.proofs.lemmas.Result.{on_ok_weaker}
use Rattle.any_dictionary.specs.Dictionaries.{plain_places}
use Rattle.any_dictionary.proofs.PlainPlaces.{found_places, plain_back}
use Rattle.any_dictionary.proofs.places.put_breaks.Goals as goal

pub returns-clause-places : goal.returns-clause-places
returns-clause-places g c =
    on_ok_weaker c.breaks_into.result (found_places c.breaks_into.new.breaks.items (g.H.Hyphenator.breaks_of c.args.dictionary.now c.args.word.now))
    c.breaks_into.ensures.breaks

pub returns-clause-plain : goal.returns-clause-plain
returns-clause-plain g c =
    on_ok_weaker c.breaks_into.result (λ e. sym (plain_back c.breaks_into.new.breaks.items) ∙ ap plain_places e) c.breaks_into.ensures.breaks
