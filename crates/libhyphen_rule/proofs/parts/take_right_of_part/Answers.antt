use Rattle.std.proofs.Common.{◌≡◌, w32, to_z, of_z, rules, ap, ◌∙◌}
use Rattle.std.proofs.lemmas.List.{with_items_is}
use Rattle.std.specs.Vec.{with_items}
use Rattle.libhyphen_rule.specs.Found.{asked_in, found_of, minima_of, placed_all}
use Rattle.libhyphen_rule.specs.Minima.{changes_but, digits_but, right_goes}
use Rattle.libhyphen_rule.proofs.WordsFound.{right_kept, right_of}
use Rattle.libhyphen_rule.proofs.parts.take_right_of_part.Goals as goal

least_is : (c : goal.After-drop-text) → to_z w32 (of_z w32 c.args.levels.right) ≡ c.args.levels.right
least_is c = search rules

pub returns-in_ok-text-clause-found : goal.returns-in_ok-text-clause-found
returns-in_ok-text-clause-found c =
    let utf8 = c.args.levels.dictionary.now.utf8 in
    let found = c.args.found.now in
    let least = c.args.levels.right in
    let text = c.deref.result.now in
    let old = c.deref_mut-then-not-asked.result.now in
    let ds = with_items found.digits c.take_right.new.digits in
    let cs = with_items found.changes c.take_right.new.changes in
    let ds_is = with_items_is found.digits c.take_right.new.digits (c.take_right.auto.digits ∙ c.deref_mut.ensures.len) in
    let cs_is = with_items_is found.changes c.take_right.new.changes (c.take_right.auto.changes ∙ c.deref_mut-then-not-asked.ensures.len) in
    right_of utf8 (minima_of c.args.levels) (asked_in c.args.asked) (found_of found) text ds.items (placed_all cs.items) c.if-not-asked.true
    (c.deref.ensures.value ∙ c.in_ok-text.ensures)
    (ds_is ∙ c.take_right.ensures.digits
    ∙ ap (λ z. digits_but (right_goes c.is_utf8-utf8.result z c.args.asked.text.now text (placed_all old)) c.deref_mut.result.now) (least_is c)
    ∙ ap (λ u. digits_but (right_goes u least c.args.asked.text.now text (placed_all old)) c.deref_mut.result.now) c.is_utf8-utf8.ensures
    ∙ ap (λ xs. digits_but (right_goes utf8 least c.args.asked.text.now text (placed_all xs)) c.deref_mut.result.now) c.deref_mut-then-not-asked.ensures.value
    ∙ ap (digits_but (right_goes utf8 least c.args.asked.text.now text (placed_all found.changes.items))) c.deref_mut.ensures.value)
    (ap placed_all cs_is ∙ c.take_right.ensures.changes
    ∙ ap (λ z. changes_but (right_goes c.is_utf8-utf8.result z c.args.asked.text.now text (placed_all old)) (placed_all old)) (least_is c)
    ∙ ap (λ u. changes_but (right_goes u least c.args.asked.text.now text (placed_all old)) (placed_all old)) c.is_utf8-utf8.ensures
    ∙ ap (λ xs. changes_but (right_goes utf8 least c.args.asked.text.now text (placed_all xs)) (placed_all xs)) c.deref_mut-then-not-asked.ensures.value)

pub returns-else-not-asked-clause-found : goal.returns-else-not-asked-clause-found
returns-else-not-asked-clause-found c =
    right_kept c.args.levels.dictionary.now.utf8 (minima_of c.args.levels) (asked_in c.args.asked) (found_of c.args.found.now) c.if-not-asked.false
