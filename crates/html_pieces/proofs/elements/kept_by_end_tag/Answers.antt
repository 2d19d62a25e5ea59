use Rattle.std.proofs.Common.{◌∙◌, ap, sym, take, length, arith}
use Rattle.std.proofs.lemmas.List.{take_all}
use Rattle.html_pieces.specs.Elements.{as_elements}
use Rattle.html_pieces.proofs.Limits.{none_at_limit, closed_passes}
use Rattle.html_pieces.proofs.elements.kept_by_end_tag.Goals as goal

pub returns-then-left-eq0-clause-kept : goal.returns-then-left-eq0-clause-kept
returns-then-left-eq0-clause-kept c =
    let none = none_at_limit c.args.form c.args.name.now c.args.tag c.loop-i.left (as_elements (take c.loop-i.i c.args.elements.now)) c.if-left-eq0.true in
    ap as_elements (take_all (length c.args.elements.now) c.args.elements.now (omega arith))
    ∙ sym (closed_passes c.args.form c.args.name.now c.args.tag (as_elements c.args.elements.now) (sym c.is_root.ensures ∙ c.if-is_root.false) (sym c.loop-i.invariant.told ∙ none))
