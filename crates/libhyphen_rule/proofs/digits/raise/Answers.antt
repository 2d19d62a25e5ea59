use Rattle.std.proofs.Common.{arith}
use Rattle.libhyphen_rule.proofs.RaisedDigits.{raised, not_raised}
use Rattle.libhyphen_rule.proofs.digits.raise.Goals as goal
use Rattle.libhyphen_rule.proofs.digits.raise.Goals.{else-place-ge2-via-then-place-ge2+then-place-digits+else-digits-place, else-place-ge2-via-then-place-ge2+else-place-digits, else-place-ge2-via-else-place-ge2}

pub returns-then-digits-place : goal.returns-then-digits-place
returns-then-digits-place c =
    raised c.args.digits.now c.args.place c.args.digit c.if-place-ge2.true c.if-place-digits.true (omega (arith, c.if-digits-place.true))

pub returns-else-place-ge2 : goal.returns-else-place-ge2
returns-else-place-ge2 c = not_raised c.args.digits.now c.args.place c.args.digit
    (λ low inside. elim c.else-place-ge2.branch [
      | else-place-ge2-via-then-place-ge2+then-place-digits+else-digits-place w ↦ omega arith
      | else-place-ge2-via-then-place-ge2+else-place-digits w ↦ omega arith
      | else-place-ge2-via-else-place-ge2 w ↦ omega arith
    ])
