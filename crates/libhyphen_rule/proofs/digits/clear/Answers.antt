use Rattle.std.proofs.Common.{◌<◌, ◌≢◌, length, arith, get_or-set_other, get_or-set_same, below_more}
use Rattle.libhyphen_rule.proofs.digits.clear.Goals as goal

pub loop-digit-preserved : goal.loop-digit-preserved
loop-digit-preserved c =
    below_more _ _
    (λ k h. let ne : k ≢ c.loop-digit.digit-index = omega arith in rw get_or-set_other (c.loop-digit.invariant k h))
    (let lt : c.loop-digit.digit-index < length c.loop-digit.digits = omega arith in rw get_or-set_same)
