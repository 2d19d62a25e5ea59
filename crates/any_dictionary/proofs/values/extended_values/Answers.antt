use Rattle.std.proofs.Common.{◌∙◌, ap, map}
use Rattle.hyphenation_breaks.specs.Dictionary.{entries_of_keys}
use Rattle.hyphenation_score.specs.Scoring.{own_change}
use Rattle.any_dictionary.proofs.values.extended_values.Goals as goal

pub returns : goal.returns
returns c =
    let pairs = ap (map (λ pair. pair.0)) c.deref.ensures.value in
    let found = c.scores_have_values.ensures own_change (entries_of_keys c.args.dictionary.now) c.args.word.now c.in_ok-scored.scored.items c.in_ok-scored.ensures.scores in
    c.in_ok-found.ensures ∙ pairs ∙ found
