use Rattle.std.proofs.Common.{◌++◌, length, sym, ap, ap₂, ◌∙◌}
use Rattle.std.specs.List.{list_any}
use Rattle.std.specs.Prelude.{nat_eq}
use Rattle.composed_words.specs.Composed.{composed}
use Rattle.composed_words.proofs.Places.{ends_told, ends_not}
use Rattle.composed_words.proofs.carrying.ends_at_any.Goals as goal

pub returns-then-eq : goal.returns-then-eq
unfolding composed
returns-then-eq c =
    ends_told c.args.front.now c.args.back.now c.args.nfc.now c.args.places.now c.as_str-3.result.now c.contains.result
    (c.as_str-3.ensures.value ∙ c.in_ok-push_str.ensures.bytes ∙ ap₂ (λ x y. x ++ y) c.in_ok-parts.ensures (c.as_str-2.ensures.value ∙ c.in_ok-second.ensures))
    (sym c.eq.ensures ∙ c.if-eq.true)
    (c.contains.ensures.value ∙ ap (λ x. list_any (λ y. nat_eq y (length x)) c.args.places.now) (c.as_str.ensures.value ∙ c.in_ok-parts.ensures))

pub returns : goal.returns
unfolding composed
returns c =
    ends_not c.args.front.now c.args.back.now c.args.nfc.now c.args.places.now c.as_str-3.result.now
    (c.as_str-3.ensures.value ∙ c.in_ok-push_str.ensures.bytes ∙ ap₂ (λ x y. x ++ y) c.in_ok-parts.ensures (c.as_str-2.ensures.value ∙ c.in_ok-second.ensures))
    (sym c.eq.ensures ∙ c.if-eq.false)
