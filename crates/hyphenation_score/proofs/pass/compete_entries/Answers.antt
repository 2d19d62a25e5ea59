use Rattle.std.proofs.Common.{◌-◌, ◌∷◌, ◌++◌, [], sym, ap, ◌∙◌, arith}
use Rattle.std.proofs.lemmas.List.{take_all}
use Rattle.hyphenation_score.specs.Private.OnePass.{bearing}
use Rattle.hyphenation_score.proofs.OnePass.{bearing_more, after_more}
use Rattle.hyphenation_score.proofs.pass.compete_entries.Goals as goal

pub returns-in-len2 : goal.returns-in-len2
returns-in-len2 g c =
    let es = c.args.entries.now in
    let start = c.args.end - c.args.depth in
    let first = c.first-item.result in
    let second = c.second-item.result in
    after_more g.S.Slot.meaning g.S.Slot.after c.args.slots.now c.compete_at_place-in-len2.new.slots c.compete_at_place-in-len2-2.new.slots (bearing (first ∷ []) start) (bearing (second ∷ []) start) (bearing es start)
    c.compete_at_place-in-len2.auto.slots
    (λ p. ap (λ xs. bearing xs start p) (sym (take_all 2 es (omega (arith, c.in-len2.len_below)))) ∙ bearing_more es 1 second start (omega (arith, c.in-len2.len_at_least)) c.second-item.is p
    ∙ ap (λ xs. xs ++ bearing (second ∷ []) start p) (bearing_more es 0 first start (omega (arith, c.in-len2.len_at_least)) c.first-item.is p))
    c.compete_at_place-in-len2.ensures c.compete_at_place-in-len2-2.ensures
