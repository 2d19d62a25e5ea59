use Rattle.std.proofs.Common.{◌≡◌, ◌∙◌, ℕ, ◌++◌, ◌∷◌, [], get_or, sym, subst}
use Rattle.hyphenation_reader.specs.Private.Matched.{pending}
use Rattle.hyphenation_reader.proofs.MatchedEntries.{goes_on, none_by, told, made_all}
use Rattle.hyphenation_reader.proofs.items.entries_with_changes.Goals as goal

pub loop-value-preserved : goal.loop-value-preserved
loop-value-preserved g c =
    let pushed = subst (λ (place : ℕ). c.push.new.self.items ≡ c.loop-value.entries.items ++ record { place = place; value = (get_or c.args.values.now c.loop-value.value-index (0, 0)).1; change = c.from_change.result } ∷ []) c.in_ok-place.ensures.same_number c.in_ok-push.ensures.items in
    let on = goes_on g.C.Payload.payload_of c.loop-value.entries.items c.push.new.self.items c.args.values.now c.loop-value.value-index (pending c.loop-value.next c.loop-value.rest.rest.items)
    (pending c.take_change_at-change.new.next c.take_change_at-change.new.rest.rest.items) c.take_change_at-change.result c.from_change.result c.loop-value-test.true pushed c.from_change.ensures c.take_change_at-change.ensures.change c.take_change_at-change.ensures.tail in
    record { made = on.0 ∙ c.loop-value.invariant.made; tail = on.1 ∙ c.loop-value.invariant.tail }

pub returns-clause-each_has_value : goal.returns-clause-each_has_value
returns-clause-each_has_value g c =
    none_by _ _ c.is_none.ensures
    ∙ sym (told c.args.values.now c.args.listed.items c.requires.values c.requires.listed c.loop-value.value-index c.loop-value-test.false c.loop-value.next c.loop-value.rest.rest.items c.loop-value.invariant.tail)

pub returns-clause-entries : goal.returns-clause-entries
returns-clause-entries g c = λ all.
    made_all c.args.values.now c.args.listed.items c.requires.values c.requires.listed c.loop-value.value-index c.loop-value-test.false c.loop-value.next c.loop-value.rest.rest.items g.C.Payload.payload_of c.loop-value.entries.items c.loop-value.invariant.made
    (told c.args.values.now c.args.listed.items c.requires.values c.requires.listed c.loop-value.value-index c.loop-value-test.false c.loop-value.next c.loop-value.rest.rest.items c.loop-value.invariant.tail ∙ sym (none_by _ _ c.is_none.ensures) ∙ all)
