use Rattle.std.proofs.Common.{◌==◌, take, position, sym, ap, ◌∙◌}
use Rattle.libhyphen_rule.specs.Found.{asked_in}
use Rattle.libhyphen_rule.proofs.Partings.{ok_same}
use Rattle.libhyphen_rule.proofs.WordsFound.{behind_none, behind_some}
use Rattle.libhyphen_rule.proofs.parts.with_behind.Goals as goal

pub returns-in-Some : goal.returns-in-Some
returns-in-Some c =
    let asked = asked_in c.args.asked in
    let all = c.in_ok-all.all.items in
    ok_same c.first_bytes.result (λ v. v.items) _ _
    (ap (take c.in-Some.end) c.deref-in-Some.ensures.value
    ∙ behind_some asked all c.in-Some.end c.in_ok-all.ensures (ap (position (λ b. b == 0)) (sym c.deref.ensures.value) ∙ sym c.in-Some.ensures))
    c.first_bytes.ensures

pub returns-in-None : goal.returns-in-None
returns-in-None c =
    behind_none (asked_in c.args.asked) c.in_ok-all.all.items c.in_ok-all.ensures (ap (position (λ b. b == 0)) (sym c.deref.ensures.value) ∙ sym c.in-None.ensures)
