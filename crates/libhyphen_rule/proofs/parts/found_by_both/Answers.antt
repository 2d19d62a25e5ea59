use Rattle.std.proofs.Common.{◌≡◌, length, true, sym, ap, ◌∙◌}
use Rattle.std.proofs.lemmas.List.{length-map, with_items_is}
use Rattle.std.specs.Option.{option_map}
use Rattle.std.specs.Vec.{with_items}
use Rattle.libhyphen_rule.specs.Found.{placed, placed_all}
use Rattle.libhyphen_rule.specs.Parts.{changes_with, some_change}
use Rattle.libhyphen_rule.proofs.PlacesOfParts.{placed_with}
use Rattle.libhyphen_rule.proofs.WordsFound.{next_level_of, next_level_alone, made_true}
use Rattle.libhyphen_rule.proofs.parts.found_by_both.Goals as goal

pub returns-in_ok-read_level-clause-found : goal.returns-in_ok-read_level-clause-found
returns-in_ok-read_level-clause-found c =
    let tops = placed_all c.args.found.changes.items in
    let next_level = placed_all c.read_level.new.changes in
    let n = length c.args.text.now in
    let ds = with_items c.args.found.digits c.read_level.new.digits in
    let bs = with_items c.in_ok-next_level.next_level c.read_level.new.changes in
    let cs = with_items c.args.found.changes c.put_changes.new.changes in
    let ds_is = with_items_is c.args.found.digits c.read_level.new.digits (c.read_level.auto.digits ∙ c.deref_mut.ensures.len) in
    let bs_is = with_items_is c.in_ok-next_level.next_level c.read_level.new.changes (c.read_level.auto.changes ∙ c.deref_mut-then-made.ensures.len) in
    let cs_is = with_items_is c.args.found.changes c.put_changes.new.changes (c.put_changes.auto.changes ∙ c.deref_mut-then-made-2.ensures.len) in
    let changes : placed_all cs.items ≡ changes_with tops 0 n next_level =
    ap placed_all (cs_is ∙ c.put_changes.ensures)
    ∙ ap (λ xs. placed_all (changes_with xs 0 n c.deref.result.now)) c.deref_mut-then-made-2.ensures.value
    ∙ ap (λ xs. placed_all (changes_with c.args.found.changes.items 0 n xs)) (c.deref.ensures.value ∙ bs_is)
    ∙ placed_with c.args.found.changes.items 0 n c.read_level.new.changes in
    next_level_of c.args.levels.dictionary.now c.args.found.parts c.args.text.now tops c.next_level.result.now ds.items next_level (placed_all cs.items) true
    c.next_level.ensures (ds_is ∙ c.in_ok-read_level.ensures.digits) c.in_ok-read_level.ensures.changes changes
    (made_true tops next_level (sym c.requires.made ∙ c.if-made.true))

pub returns-in_ok-read_level-2-clause-found : goal.returns-in_ok-read_level-2-clause-found
returns-in_ok-read_level-2-clause-found c =
    let tops = placed_all c.args.found.changes.items in
    let ds = with_items c.args.found.digits c.read_level-else-made.new.digits in
    let cs = with_items c.args.found.changes c.read_level-else-made.new.changes in
    let ds_is = with_items_is c.args.found.digits c.read_level-else-made.new.digits (c.read_level-else-made.auto.digits ∙ c.deref_mut-else-made.ensures.len) in
    let cs_is = with_items_is c.args.found.changes c.read_level-else-made.new.changes (c.read_level-else-made.auto.changes ∙ c.deref_mut-else-made-2.ensures.len) in
    let long : length cs.items ≡ length c.args.text.now =
    ap length cs_is ∙ c.read_level-else-made.auto.changes ∙ ap length c.deref_mut-else-made-2.ensures.value ∙ c.requires.changes in
    next_level_alone c.args.levels.dictionary.now c.args.found.parts c.args.text.now tops c.next_level-else-made.result.now ds.items (placed_all cs.items) c.has_change-made.result
    c.next_level-else-made.ensures (ds_is ∙ c.in_ok-read_level-2.ensures.digits) (ap placed_all cs_is ∙ c.in_ok-read_level-2.ensures.changes)
    (length-map c.args.found.changes.items (option_map placed) ∙ c.requires.changes)
    (length-map cs.items (option_map placed) ∙ long)
    (sym c.requires.made ∙ c.if-made.false)
    (c.has_change-made.ensures ∙ ap (λ xs. some_change (placed_all xs)) c.deref-else-made.ensures.value)
