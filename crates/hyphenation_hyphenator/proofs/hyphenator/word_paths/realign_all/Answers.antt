use Rattle.std.proofs.Common.{◌<◌, map, length, get_or, pos, ◌-ℤ◌, ap, ◌∙◌, arith}
use Rattle.std.specs.Int.{saturate_unsigned, w64}
use Rattle.std.proofs.lemmas.List.{length-map, get_or_default}
use Rattle.hyphenation_breaks.specs.Break.{break_at}
use Rattle.hyphenation_hyphenator.specs.Folding.{delta_below}
use Rattle.hyphenation_hyphenator.specs.Private.Opportunities.{realigned_break}
use Rattle.hyphenation_hyphenator.proofs.BreaksFound.{written_more, all_written_over}
use Rattle.hyphenation_hyphenator.proofs.hyphenator.word_paths.realign_all.Goals as goal

pub loop-b-preserved : goal.loop-b-preserved
unfolding realigned_break
loop-b-preserved g c =
    let m = g.F.Break.meaning in
    let shifts = c.args.shifts.now in
    let items = c.loop-b.b-items in
    let i = c.loop-b.b-index in
    let x = get_or items i c.b-item.result in
    let all = map m c.args.breaks.now in
    let in_all : i < length all = omega (arith, length-map c.args.breaks.now m) in
    let in_items : i < length items = omega arith in
    written_more (realigned_break shifts) m all items i x c.at_place.result in_all in_items c.loop-b.invariant (get_or_default items i c.b-item.result x in_items)
    (c.at_place.ensures ∙ ap (λ p. break_at p (m x).change) (c.realign_sorted.ensures ∙ ap (λ p. saturate_unsigned w64 (pos p -ℤ delta_below shifts p)) c.place.ensures))

pub returns : goal.returns
returns g c =
    let m = g.F.Break.meaning in
    c.loop-b.invariant ∙ all_written_over (realigned_break c.args.shifts.now) (map m c.args.breaks.now) c.loop-b.b-index (omega (arith, length-map c.args.breaks.now m))
