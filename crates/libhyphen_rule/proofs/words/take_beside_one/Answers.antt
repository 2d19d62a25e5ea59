use Rattle.std.proofs.Common.{◌≡◌, arith, length}
use Rattle.libhyphen_rule.proofs.Beside.{digits_beside_one}
use Rattle.libhyphen_rule.proofs.words.take_beside_one.Goals as goal

pub returns : goal.returns
returns c =
    let same : length c.loop-byte.digits ≡ length c.args.digits.now = omega arith in
    digits_beside_one c.args.part.now c.args.instead c.args.text.now c.args.digits.now c.loop-byte.digits same
    (λ k l. c.loop-byte.invariant.done k (omega arith))
