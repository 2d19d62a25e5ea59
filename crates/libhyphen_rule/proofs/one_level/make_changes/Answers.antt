use Rattle.std.proofs.Common.{◌≤◌, ◌∙◌, ℕ, sym, ap, length, arith}
use Rattle.libhyphen_rule.specs.Found.{placed_all}
use Rattle.libhyphen_rule.specs.Private.Claims.{claimed, claim_made}
use Rattle.libhyphen_rule.proofs.PlacedChanges.{same_made, same_put, made_none, made_skipped, made_unclaimed, made_claimed}
use Rattle.libhyphen_rule.proofs.one_level.make_changes.Goals as goal
use Rattle.libhyphen_rule.proofs.one_level.make_changes.Goals.{then-begin-next+in-Some, then-begin-next+in_default, else-begin-next}

pub loop-begin-init : goal.loop-begin-init
loop-begin-init c = record {
  len = c.clear.auto.changes;
  made = λ counted has. made_none counted (length c.args.changes.now) (placed_all c.clear.new.changes) c.clear.ensures;
}

pub loop-begin-preserved : goal.loop-begin-preserved
loop-begin-preserved c = record {
  len = c.if-begin-next.auto.changes ∙ c.loop-begin.invariant.len;
  made = λ counted has.
      let n : ℕ = length c.args.changes.now in
      let begin : ℕ = c.loop-begin.begin in
      let next : ℕ = c.loop-begin.next in
      let changes = placed_all c.loop-begin.changes in
      let low : 1 ≤ begin = omega arith in
      let before = c.loop-begin.invariant.made counted has in
      elim c.if-begin-next.branch [
        | else-begin-next w ↦
            same_made w.next-is w.changes-is (made_skipped counted n begin next changes low before w.if-begin-next.false)
        | then-begin-next+in_default w ↦
            same_made w.next-is w.changes-is (made_unclaimed counted n begin next changes low before w.if-begin-next.true
            (sym (ap claimed w.in_default.is) ∙ w.claim.ensures.claimed counted has))
        | then-begin-next+in-Some w ↦
            same_put w.next-is w.changes-is w.put.ensures (made_claimed counted n begin next changes low before w.if-begin-next.true
            (claim_made (w.in-Some.place, w.in-Some.change)) (sym (ap claimed w.in-Some.is) ∙ w.claim.ensures.claimed counted has))
      ];
}
