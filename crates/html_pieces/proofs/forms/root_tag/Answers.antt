use Rattle.std.proofs.Common.{◌∙◌, sym}
use Rattle.html_pieces.proofs.FrontSteps.{led_to_tag, led_past, led_on}
use Rattle.html_pieces.proofs.forms.root_tag.Goals as goal
use Rattle.html_pieces.proofs.forms.root_tag.Goals.{then-is_data, else-is_data}

pub returns-then-is_tag_end : goal.returns-then-is_tag_end
returns-then-is_tag_end c =
    led_to_tag c.args.page.now c.loop-i.state c.front_state-state.result c.loop-i.start c.loop-i.i c.loop-i.invariant c.loop-i-test.true c.front_state-state.ensures
    (sym c.is_tag_end.ensures ∙ c.if-is_tag_end.true)

pub returns-then-is_past_front : goal.returns-then-is_past_front
returns-then-is_past_front c =
    led_past c.args.page.now c.loop-i.state c.front_state-state.result c.loop-i.start c.loop-i.i c.loop-i.invariant c.loop-i-test.true c.front_state-state.ensures
    (sym c.is_tag_end.ensures ∙ c.if-is_tag_end.false) (sym c.is_past_front.ensures ∙ c.if-is_past_front.true)

pub loop-i-preserved : goal.loop-i-preserved
loop-i-preserved c =
    let on = led_on c.args.page.now c.loop-i.state c.front_state-state.result c.loop-i.start c.if-is_data.start c.loop-i.i c.is_data.result c.loop-i.invariant c.loop-i-test.true c.front_state-state.ensures
    (sym c.is_past_front.ensures ∙ c.if-is_past_front.false) c.is_data.ensures in
    elim c.if-is_data.branch [
      | then-is_data w ↦ on (rw (w.if-is_data.true) w.start-is)
      | else-is_data w ↦ on (rw (w.if-is_data.false) w.start-is)
    ]
