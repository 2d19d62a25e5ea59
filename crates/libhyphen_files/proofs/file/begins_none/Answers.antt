use Rattle.std.proofs.Common.{◌≡◌, ◌∙◌, Bool, ap, arith, sym, false, get_or}
use Rattle.std.specs.Prelude.{◌||◌}
use Rattle.std.specs.List.{list_any}
use Rattle.std.proofs.lemmas.List.{take_all}
use Rattle.std.proofs.lemmas.List.Folds.{list_any_more}
use Rattle.libhyphen_files.specs.Ordinary.{may_begin_with}
use Rattle.libhyphen_files.proofs.OrdinaryBytes.{any_of_map}
use Rattle.libhyphen_files.proofs.file.begins_none.Goals as goal

pub loop-text-preserved : goal.loop-text-preserved
loop-text-preserved c =
    let texts = c.args.texts.now in
    let n = c.loop-text.text-index in
    let item = get_or texts n c.text-item.result in
    let begins = may_begin_with c.args.byte in
    let here : begins item.items ≡ false
    = ap (λ v. begins v.items) (sym c.text-item.is) ∙ ap begins (sym c.deref.ensures.value)
    ∙ sym c.may_begin_with.ensures ∙ c.if-may_begin_with.false in
    list_any_more (λ text. begins text.items) texts n c.text-item.result (omega arith)
    ∙ ap (λ (b : Bool). b || begins item.items) c.loop-text.invariant
    ∙ here

pub returns : goal.returns
returns c = λ all.
    let texts = c.args.texts.now in
    let begins = may_begin_with c.args.byte in
    any_of_map begins (λ text. text.items) texts
    ∙ ap (list_any (λ text. begins text.items)) (sym (take_all c.loop-text.text-index texts (omega arith)))
    ∙ c.loop-text.invariant
