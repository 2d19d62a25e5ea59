use Rattle.std.proofs.Common.{ap, ◌∙◌}
use Rattle.std.proofs.lemmas.List.{with_items_is}
use Rattle.std.specs.Vec.{with_items}
use Rattle.libhyphen_rule.specs.Found.{placed_all}
use Rattle.libhyphen_rule.specs.Parts.{some_change}
use Rattle.libhyphen_rule.proofs.WordsFound.{first_level_of}
use Rattle.libhyphen_rule.proofs.parts.found_by_first_level.Goals as goal

pub returns-clause-found : goal.returns-clause-found
returns-clause-found c =
    let ds = with_items c.in_ok-digits.digits c.read_level.new.digits in
    let cs = with_items c.in_ok-changes.changes c.read_level.new.changes in
    let ds_is = with_items_is c.in_ok-digits.digits c.read_level.new.digits (c.read_level.auto.digits ∙ c.deref_mut.ensures.len) in
    let cs_is = with_items_is c.in_ok-changes.changes c.read_level.new.changes (c.read_level.auto.changes ∙ c.deref_mut-2.ensures.len) in
    first_level_of c.args.levels.dictionary.now c.args.parts c.args.text.now c.first_level.result.now ds.items (placed_all cs.items) c.has_change-made.result
    c.first_level.ensures (ds_is ∙ c.in_ok-read_level.ensures.digits) (ap placed_all cs_is ∙ c.in_ok-read_level.ensures.changes)
    (c.has_change-made.ensures ∙ ap (λ xs. some_change (placed_all xs)) c.deref.ensures.value)
