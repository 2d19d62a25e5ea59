use Rattle.std.proofs.Common.{◌∷◌, [], ◌++◌, map, take, get_or, ap, sym, ◌∙◌}
use Rattle.std.proofs.lemmas.List.{take_all, take_more, map-append}
use Rattle.hyphenation_breaks.specs.Break.{plain_break}
use Rattle.hyphenation_hyphenator.proofs.hyphenator.word_paths.put_plain.Goals as goal

pub loop-place-init : goal.loop-place-init
loop-place-init g c = ap (map g.F.Break.meaning) c.requires

pub loop-place-preserved : goal.loop-place-preserved
loop-place-preserved g c =
    let m = g.F.Break.meaning in
    let places = c.args.places.now in
    let i = c.loop-place.place-index in
    ap (map m) c.in_ok-push_with_room.ensures
    ∙ map-append m c.loop-place.list.items (c.plain.result ∷ [])
    ∙ ap (λ bs. bs ++ m c.plain.result ∷ []) c.loop-place.invariant
    ∙ ap (λ b. map plain_break (take i places) ++ b ∷ []) c.plain.ensures
    ∙ sym (ap (map plain_break) (take_more places i 0 c.loop-place-test.true) ∙ map-append plain_break (take i places) (get_or places i 0 ∷ []))

pub returns : goal.returns
returns g c = c.loop-place.invariant ∙ ap (map plain_break) (take_all c.loop-place.place-index c.args.places.now c.loop-place-test.false)
