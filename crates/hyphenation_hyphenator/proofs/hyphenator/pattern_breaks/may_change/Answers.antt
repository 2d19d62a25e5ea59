use Rattle.std.proofs.Common.{not, ap, ◌∙◌, arith}
use Rattle.std.specs.List.{list_all}
use Rattle.hyphenation_hyphenator.specs.Private.Opportunities.{is_unchanged}
use Rattle.hyphenation_hyphenator.proofs.PlacesByRanks.{none_yet, change_more, all_places}
use Rattle.hyphenation_hyphenator.proofs.hyphenator.pattern_breaks.may_change.Goals as goal

pub loop-place-init : goal.loop-place-init
loop-place-init c = none_yet c.args.ranks.now c.args.bounds c.max-first.result

pub loop-place-preserved : goal.loop-place-preserved
loop-place-preserved c =
    change_more c.args.ranks.now c.args.bounds c.max-first.result c.min-end.result c.loop-place.place c.loop-place.changed c.max-first.ensures c.min-end.ensures (omega arith) (omega arith) c.loop-place.invariant

pub returns : goal.returns
returns c =
    let ranks = c.args.ranks.now in
    let first = c.max-first.result in
    let end = c.min-end.result in
    c.loop-place.invariant
    ∙ ap (λ places. not (list_all (is_unchanged ranks) places)) (all_places ranks c.args.bounds first end c.loop-place.place c.max-first.ensures c.min-end.ensures (omega arith) (omega arith) c.loop-place.auto.place-end)
