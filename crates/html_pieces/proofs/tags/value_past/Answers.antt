use Rattle.std.proofs.Common.{◌++◌, ap, sym, ◌∙◌, slice_range, if◌then◌else◌}
use Rattle.html_pieces.proofs.ValueSteps.{grown_past}
use Rattle.html_pieces.proofs.tags.value_past.Goals as goal

pub returns-then-is_value : goal.returns-then-is_value
returns-then-is_value c =
    let tag = c.args.tag.now in
    let value = c.args.value.now in
    let is = sym c.is_value.ensures ∙ c.if-is_value.true in
    grown_past tag value c.args.from c.args.to c.requires.order c.requires.within (c.requires.part is)
    ∙ sym (ap (λ b. if b then value ++ slice_range tag c.args.from c.args.to else value) is)
