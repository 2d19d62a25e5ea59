use Rattle.std.proofs.Common.{◌≡◌, ◌∙◌, List, ℕ, Bool, false, [], ◌∷◌, ap, arith, refl, sym, map, take, get_or}
use Rattle.std.specs.Prelude.{◌||◌}
use Rattle.std.proofs.lemmas.Bool.{eqb-true}
use Rattle.std.proofs.lemmas.List.{map_more, take_all}
use Rattle.libhyphen_rule.specs.Words.{digits_beside}
use Rattle.libhyphen_rule.proofs.Absent.{digits_stay}
use Rattle.libhyphen_rule.proofs.Beside.{digits_beside_more, digits_beside_none}
use Rattle.libhyphen_rule.proofs.words.take_beside.Goals as goal
use Rattle.libhyphen_rule.proofs.words.take_beside.Goals.{then-may_stand, else-may_stand}

pub returns-then-is_empty : goal.returns-then-is_empty
returns-then-is_empty c =
    digits_beside_none (λ part. part.items) c.args.parts.now c.args.instead c.args.text.now c.args.digits.now
    (eqb-true _ 0 (sym c.is_empty.ensures ∙ c.if-is_empty.true))

pub loop-part-init : goal.loop-part-init
loop-part-init c = digits_stay [] c.args.instead c.args.text.now c.args.digits.now (λ byte. refl)

pub loop-part-preserved : goal.loop-part-preserved
loop-part-preserved c =
    let parts = c.args.parts.now in
    let n = c.loop-part.part-index in
    let item = get_or parts n c.part-item.result in
    let instead = c.args.instead in
    let text = c.args.text.now in
    let digits = c.args.digits.now in
    let so_far = c.loop-part.digits in
    let before = map (λ part. part.items) (take n parts) in
    let beside = λ (part : List ℕ). digits_beside (part ∷ []) instead text so_far in
    let own = ap (λ v. v.items) c.part-item.is in
    let one : c.if-may_stand.digits ≡ beside item.items
    = elim c.if-may_stand.branch [
      | then-may_stand w ↦
          w.digits-is ∙ w.take_beside_one.ensures ∙ ap beside (w.deref-then-may_stand.ensures.value ∙ own)
      | else-may_stand w ↦
          w.digits-is
          ∙ digits_stay (c.deref.result.now ∷ []) instead text so_far
          (λ byte. ap (λ (b : Bool). b || false)
          (c.may_stand.ensures w.if-may_stand.false text c.occurring-occurs.ensures byte))
          ∙ ap beside (c.deref.ensures.value ∙ own)
    ] in
    one
    ∙ ap (λ (d : List ℕ). digits_beside (item.items ∷ []) instead text d) c.loop-part.invariant
    ∙ digits_beside_more before item.items instead text digits
    ∙ ap (λ (ps : List (List ℕ)). digits_beside ps instead text digits)
    (sym (map_more (λ part. part.items) parts n c.part-item.result (omega arith)))

pub returns : goal.returns
returns c =
    c.loop-part.invariant
    ∙ ap (λ parts. digits_beside (map (λ part. part.items) parts) c.args.instead c.args.text.now c.args.digits.now)
    (take_all c.loop-part.part-index c.args.parts.now (omega arith))
