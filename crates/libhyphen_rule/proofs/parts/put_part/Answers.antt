use Rattle.std.proofs.Common.{◌≡◌, take, ap, ◌∙◌}
use Rattle.std.proofs.lemmas.List.{with_items_is}
use Rattle.std.specs.Vec.{with_items}
use Rattle.libhyphen_rule.specs.Found.{found_of, placed_all}
use Rattle.libhyphen_rule.specs.Parts.{changes_with, digits_with, some_change}
use Rattle.libhyphen_rule.proofs.PlacesOfParts.{placed_with}
use Rattle.libhyphen_rule.proofs.WordsFound.{put_of}
use Rattle.libhyphen_rule.proofs.parts.put_part.Goals as goal

pub returns-clause-found : goal.returns-clause-found
returns-clause-found c =
    let begin = c.args.begin in
    let count = c.args.count in
    let digits : c.put_digits.new.digits ≡ digits_with c.args.whole.now.digits.items begin count c.args.part.digits.items =
    c.put_digits.ensures
    ∙ ap (λ xs. digits_with xs begin count c.deref.result.now) c.deref_mut.ensures.value
    ∙ ap (digits_with c.args.whole.now.digits.items begin count) c.deref.ensures.value in
    let changes : c.put_changes.new.changes ≡ changes_with c.args.whole.now.changes.items begin count c.args.part.changes.items =
    c.put_changes.ensures
    ∙ ap (λ xs. changes_with xs begin count c.deref-2.result.now) c.deref_mut-2.ensures.value
    ∙ ap (changes_with c.args.whole.now.changes.items begin count) c.deref-2.ensures.value in
    let ds = with_items c.args.whole.now.digits c.put_digits.new.digits in
    let cs = with_items c.args.whole.now.changes c.put_changes.new.changes in
    let ds_is = with_items_is c.args.whole.now.digits c.put_digits.new.digits (c.put_digits.auto.digits ∙ c.deref_mut.ensures.len) in
    let cs_is = with_items_is c.args.whole.now.changes c.put_changes.new.changes (c.put_changes.auto.changes ∙ c.deref_mut-2.ensures.len) in
    put_of (found_of c.args.whole.now) (found_of c.args.part) begin count ds.items (placed_all cs.items) c.has_change_within-made.result
    (ds_is ∙ digits) (ap placed_all (cs_is ∙ changes) ∙ placed_with c.args.whole.now.changes.items begin count c.args.part.changes.items)
    (c.has_change_within-made.ensures ∙ ap (λ xs. some_change (take count (placed_all xs))) c.deref-3.ensures.value)
