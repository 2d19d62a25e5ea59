use Rattle.std.proofs.Common.{◌+◌, arith}
use Rattle.std.proofs.lemmas.Grind.{common_steps}
use Rattle.html_pieces.proofs.AttributeSteps.{read_on}
use Rattle.html_pieces.proofs.ValueSteps.{read_up_to}
use Rattle.html_pieces.proofs.tags.attributes.Goals as goal

pub value_past-value-requires-clause-part : goal.value_past-value-requires-clause-part
value_past-value-requires-clause-part c =
    (read_on c.args.form c.args.tag.now _ _ c.loop-i.state c.next_in_tag-after.result c.loop-i.name.now c.loop-i.value.now _ _ c.loop-i.i c.loop-i.invariant c.loop-i-test.true
    c.next_in_tag-after.ensures c.in_ok-push_ended.ensures c.attribute_name_after-name.ensures c.attribute_value_after-value.ensures).value_at

pub loop-i-preserved : goal.loop-i-preserved
loop-i-preserved c =
    let read = read_on c.args.form c.args.tag.now _ _ c.loop-i.state c.next_in_tag-after.result c.loop-i.name.now c.loop-i.value.now _ _ c.loop-i.i c.loop-i.invariant c.loop-i-test.true
    c.next_in_tag-after.ensures c.in_ok-push_ended.ensures c.attribute_name_after-name.ensures c.attribute_value_after-value.ensures in
    read_up_to c.args.form c.args.tag.now _ c.next_in_tag-after.result _ c.attribute_value_after-value.result.now c.value_past-value.result.now (c.loop-i.i + 1) c.after_value-end.result read
    c.after_value-end.ensures.passed c.after_value-end.ensures.within c.after_value-end.ensures.quiet c.after_value-end.ensures.kept c.value_past-value.ensures

pub attribute_name_after-name-requires-clause-within : goal.attribute_name_after-name-requires-clause-within
attribute_name_after-name-requires-clause-within c = grind (arith, common_steps)

pub attribute_value_after-value-requires-clause-within : goal.attribute_value_after-value-requires-clause-within
attribute_value_after-value-requires-clause-within c = grind (arith, common_steps)

pub value_past-value-requires-clause-order : goal.value_past-value-requires-clause-order
value_past-value-requires-clause-order c = grind (arith, common_steps)

pub value_past-value-requires-clause-within : goal.value_past-value-requires-clause-within
value_past-value-requires-clause-within c = grind (arith, common_steps)

pub loop-i-init : goal.loop-i-init
loop-i-init c = grind (arith, common_steps)

pub loop-i-smaller : goal.loop-i-smaller
loop-i-smaller c = grind (arith, common_steps)

pub overflow_add-i : goal.overflow_add-i
overflow_add-i c = grind (arith, common_steps)

pub overflow_add-i-in-loop-i : goal.overflow_add-i-in-loop-i
overflow_add-i-in-loop-i c = grind (arith, common_steps)

pub returns : goal.returns
returns c = grind (arith, common_steps)
