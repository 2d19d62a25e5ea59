use Rattle.std.proofs.Common.{◌∙◌, None, arith, replicate, List, Option, Bor}
use Rattle.std.proofs.lemmas.List.{length-take, get_or-take, get_or-replicate}
use Rattle.hyphenation_breaks.specs.Break.{Change}
use Rattle.hyphenation_breaks.specs.declared.entry.Entry.{Entry}
use Rattle.hyphenation_score.proofs.Counting.{err_not_ok, counts_kept}
use Rattle.hyphenation_score.proofs.scores_in.Goals as goal

pub scores_from-requires-clause-none : goal.scores_from-requires-clause-none
scores_from-requires-clause-none c = λ i lt.
    let places = c.saturating_sub-places.result in
    let none : List (Option (Bor (Entry (Option Change)))) = replicate 16 None in
    get_or-take places none i None (omega (arith, lt, length-take places none)) ∙ get_or-replicate 16 i None None (omega (arith, lt, length-take places none))

pub returns-in_err-bests-clause-counts : goal.returns-in_err-bests-clause-counts
returns-in_err-bests-clause-counts c = λ longest none. counts_kept _ _ _ _ _ (err_not_ok c.from_residual.result c.from_residual.ensures.0)
