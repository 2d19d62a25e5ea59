use Rattle.std.proofs.Common.{◌≡◌, ◌++◌, length, take, slice_index, slice_set, refl, sym, ap, ◌∙◌}
use Rattle.std.proofs.lemmas.List.{with_items_is}
use Rattle.std.specs.Option.{option_map}
use Rattle.libhyphen_rule.specs.Found.{asked_in, placed}
use Rattle.libhyphen_rule.specs.Parts.{seen_after}
use Rattle.libhyphen_rule.proofs.Partings.{ok_same}
use Rattle.libhyphen_rule.proofs.WordsFound.{seen_changed, seen_set}
use Rattle.libhyphen_rule.proofs.parts.seen_after.Goals as goal

pub returns-in_ok-whole-in-Some-clause-seen : goal.returns-in_ok-whole-in-Some-clause-seen
returns-in_ok-whole-in-Some-clause-seen c =
    let asked = asked_in c.args.asked in
    let seen = c.args.seen.items in
    let all = c.in_ok-all-in-Some.all.items in
    let zeros = c.in_ok-zeros-in-Some.zeros.items in
    let whole = c.in_ok-whole-in-Some.whole.items in
    let whole_is : whole ≡ all ++ zeros =
    c.in_ok-whole-in-Some.ensures ∙ ap (λ xs. xs ++ c.deref-in-Some.result.now) c.deref.ensures.value ∙ ap (λ xs. all ++ xs) c.deref-in-Some.ensures.value in
    ok_same c.first_bytes.result (λ v. v.items) _ _
    (ap (take (length asked.text)) c.deref-in-Some-2.ensures.value
    ∙ seen_changed asked seen c.args.end (placed c.in-Some.field-0) all zeros whole c.in_ok-all-in-Some.ensures c.in_ok-zeros-in-Some.ensures whole_is
    ∙ sym (ap (λ o. seen_after asked seen c.args.end (option_map placed o)) c.in-Some.is))
    c.first_bytes.ensures

pub returns-in-None-clause-seen : goal.returns-in-None-clause-seen
returns-in-None-clause-seen c =
    let asked = asked_in c.args.asked in
    with_items_is c.args.seen c.show_byte.new.seen (c.show_byte.auto.seen ∙ c.deref_mut.ensures.len)
    ∙ c.show_byte.ensures ∙ ap (λ xs. slice_set xs c.args.end (slice_index asked.text c.args.end)) c.deref_mut.ensures.value
    ∙ seen_set asked c.args.seen.items c.args.end (slice_index asked.text c.args.end) refl
    ∙ sym (ap (λ o. seen_after asked c.args.seen.items c.args.end (option_map placed o)) c.in-None.is)
