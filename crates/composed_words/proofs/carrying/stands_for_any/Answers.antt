use Rattle.std.proofs.Common.{◌≡◌, refl, subst, IfOk}
use Rattle.composed_words.proofs.Places.{none_off, answer_at}
use Rattle.composed_words.proofs.carrying.stands_for_any.Goals as goal

pub returns-in-None : goal.returns-in-None
returns-in-None c =
    none_off c.boundary_is_of_chars.ensures c.args.word.now c.args.places.now c.args.place (λ b. let h = c.in-None.ensures.variant.1 b in cc)

pub returns-in-Some : goal.returns-in-Some
returns-in-Some c =
    subst (λ b. IfOk c.ends_at_any.result (λ ends. ends ≡ b))
    (answer_at c.boundary_is_of_chars.ensures c.args.word.now c.args.places.now c.in-Some.front.now c.in-Some.back.now c.args.nfc.now c.args.place
    (c.in-Some.ensures.variant.0 refl) c.in-Some.ensures.front c.in-Some.ensures.back c.requires.nfc) c.ends_at_any.ensures
