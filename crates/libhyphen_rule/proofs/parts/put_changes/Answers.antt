use Rattle.std.proofs.Common.{◌≡◌, ◌+◌, ◌<◌, length, ap, ◌∙◌, arith}
use Rattle.libhyphen_rule.specs.Parts.{changes_with}
use Rattle.libhyphen_rule.proofs.PlacesOfParts.{changes_with-none, changes_with-more}
use Rattle.libhyphen_rule.proofs.parts.put_changes.Goals as goal

pub loop-j-init : goal.loop-j-init
loop-j-init c = changes_with-none _ _ _

pub loop-j-preserved : goal.loop-j-preserved
loop-j-preserved c =
    let within : c.args.begin + c.loop-j.j < length c.args.changes.now = omega arith in
    changes_with-more c.args.changes.now c.args.begin c.loop-j.j c.args.part.now c.loop-j.changes _ within c.loop-j.invariant c.change_over.ensures

pub returns : goal.returns
returns c =
    let end : c.loop-j.j ≡ c.args.count = omega arith in
    c.loop-j.invariant ∙ ap (λ n. changes_with c.args.changes.now c.args.begin n c.args.part.now) end
